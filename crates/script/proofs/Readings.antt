-- What the words of a line answer to its questions.
use Rattle.std.proofs.Common.{◌≡◌, ℕ, ◌-◌, ◌<◌, ◌≤◌, ◌⊎◌, List, [], ◌∷◌, ◌++◌, length, get_or, take, drop, IsErrAnd, Some, None, Ok, Err, codes, decimal, Option, Result, ok_or, sym, refl, ap, ◌∙◌, subst, inl, inr, append_assoc, arith, ne_eqb}
use Rattle.std.proofs.lemmas.List.{take_rest}
use Rattle.std.proofs.lemmas.Result.{MatchResult-weaker, err_from_is_err_and}
use Rattle.std.specs.Option as options
use Rattle.std.specs.Result as results
use Rattle.faults.specs.declared.Layer.TheVariants.{Script}
use Rattle.faults.specs.declared.ScriptCause.{ScriptCause}
use Rattle.faults.specs.declared.ScriptCause.TheVariants.{WordCount, Digits, Text}
use Rattle.model.specs.Questions.{AllYes, FirstNo}
use Rattle.model.specs.declared.Call.{Call}
use Rattle.script.specs.Lines.{Each, ReadsAs, ReadsCall, line_questions, words_of, wanted, two_numbers, call_text}
use Rattle.script.specs.Parts.{Cut, Without}
use Rattle.script.specs.Words.{words, first_words, Writes, Numeral, IsWord, IsText, TwoWords, value_of}
use Rattle.script.specs.declared.parts.Part.{Part}
use Rattle.script.specs.declared.words.Word.{Word}
use Rattle.script.specs.declared.words.Word.TheVariants as word
use Rattle.script.proofs.Splits.{words_one, words_some, first_one, first_more, first_all, cut_whole, cut_more}

-- a line of the letter b that has the words ws, where b wants n
module _ (b : ℕ) (bs : List ℕ) (n : ℕ) (ws : List (List ℕ)) (want : wanted b ≡ Some n) (are : words_of (b ∷ 32 ∷ bs) ≡ ws) where
  counts : length ws ≡ n → wanted b ≡ Some (length (words_of (b ∷ 32 ∷ bs)))
  counts as_many = want ∙ ap Some (sym (ap length are ∙ as_many))

  pub count_no : (length ws ≡ n → ⊥) → FirstNo (line_questions (b ∷ 32 ∷ bs)) (Script WordCount)
  count_no other =
      inr ((b, bs, n, refl, want), inl (λ counted. let same : n ≡ length (words_of (b ∷ 32 ∷ bs)) = cc in other (sym (same ∙ ap length are)), refl))

  pub digits_no : length ws ≡ n → (Each Numeral (take 2 (drop 1 ws)) → ⊥) → FirstNo (line_questions (b ∷ 32 ∷ bs)) (Script Digits)
  digits_no as_many other =
      inr ((b, bs, n, refl, want), inr (counts as_many, inl (λ numbers. other (subst (λ l. Each Numeral (take 2 (drop 1 l))) are numbers), refl)))

  module _ (as_many : length ws ≡ n) (numbers : Each Numeral (take 2 (drop 1 ws))) where
    still : Each Numeral (take 2 (drop 1 (words_of (b ∷ 32 ∷ bs))))
    still = subst (λ l. Each Numeral (take 2 (drop 1 l))) (sym are) numbers

    pub text_no : (Each IsText (drop 3 ws) → ⊥) → FirstNo (line_questions (b ∷ 32 ∷ bs)) (Script Text)
    text_no other = inr ((b, bs, n, refl, want), inr (counts as_many, inr (still, inl (λ texts. other (subst (λ l. Each IsText (drop 3 l)) are texts), refl))))

    pub all_yes : Each IsText (drop 3 ws) → AllYes (line_questions (b ∷ 32 ∷ bs))
    all_yes texts = ((b, bs, n, refl, want), (counts as_many, (still, (subst (λ l. Each IsText (drop 3 l)) (sym are) texts, tt))))

-- the words of a line of a letter that wants fewer than four
plain : (b : ℕ) (bs : List ℕ) (n : ℕ) → wanted b ≡ Some n → n < 4 → words_of (b ∷ 32 ∷ bs) ≡ (b ∷ []) ∷ words bs
plain b bs n want few = rw (ne_eqb b 119 not_w, ne_eqb b 32 not_space) refl
  where
    not_w : b ≡ 119 → ⊥
    not_w e = let z : 4 ≡ n = let y : ◌≡◌ {A = Option ℕ} (Some 4) (Some n) = subst (λ x. wanted x ≡ Some n) e want in cc in omega arith

    not_space : b ≡ 32 → ⊥
    not_space e = let z : ◌≡◌ {A = ℕ} 0 1 = let y : ◌≡◌ {A = Option ℕ} None (Some n) = subst (λ x. wanted x ≡ Some n) e want in cc in omega arith

-- what a word says of its bytes
writes : (v : Word) (bs : List ℕ) (at n : ℕ) → IsWord v bs at → value_of v ≡ Some n → Writes bs n
writes (word.Number m part) bs at n is e = let same : m ≡ n = cc in subst (Writes bs) same is.0
writes (word.Text part) bs at n is e = absurd (let z : ◌≡◌ {A = ℕ} 0 1 = cc in omega arith)

no_number : (v : Word) (bs : List ℕ) (at : ℕ) → IsWord v bs at → value_of v ≡ None → Numeral bs → ⊥
no_number (word.Number m part) bs at is e = λ _. let z : ◌≡◌ {A = ℕ} 0 1 = cc in omega arith
no_number (word.Text part) bs at is e = is.0

not_both : (v w : Word) (bs ds : List ℕ) (i j : ℕ) → IsWord v bs i → IsWord w ds j → (value_of v ≡ None) ⊎ (value_of w ≡ None) → Numeral bs → Numeral ds → ⊥
not_both v w bs ds i j is-v is-w (inl e) x y = no_number v bs i is-v e x
not_both v w bs ds i j is-v is-w (inr e) x y = no_number w ds j is-w e y

-- two numbers with a space between them
numbers_joined : (first second : List ℕ) (n m : ℕ) → Writes first n → Writes second m → first ++ (32 ∷ second) ≡ two_numbers n m
numbers_joined first second n m x y = ap (λ l. l ++ (32 ∷ second)) x.1 ∙ ap (λ l. decimal n ++ (32 ∷ l)) y.1 ∙ sym (append_assoc (decimal n) (32 ∷ []) (decimal m))

-- bytes with no space in them
module _ (bs : List ℕ) (free : Without 32 bs) where
  pub one_plain : (b : ℕ) → wanted b ≡ Some 3 → FirstNo (line_questions (b ∷ 32 ∷ bs)) (Script WordCount)
  one_plain b want = count_no b bs 3 _ want (plain b bs 3 want (omega arith) ∙ ap (λ ws. (b ∷ []) ∷ ws) (words_one bs free)) (λ e. omega arith)

  pub one_write : FirstNo (line_questions (119 ∷ 32 ∷ bs)) (Script WordCount)
  one_write = count_no 119 bs 4 _ refl (ap (λ ws. (119 ∷ []) ∷ ws) (first_one 2 bs free)) (λ e. omega arith)

-- bytes with no space behind a first one
pub no_space : (bs : List ℕ) (at : ℕ) (front : Part) (back : Option Part) → Cut 32 bs at front back → back ≡ None → Without 32 bs
no_space bs at front back cut none = let whole = (subst (Cut 32 bs at front) none cut).0 in subst (Without 32) (sym whole.1) whole.0

-- one word, and more where there is a space behind it
module _ (bs : List ℕ) (at : ℕ) (front : Part) (more : Option Part) (cut : Cut 32 bs at front more) (b : ℕ) (want : wanted b ≡ Some 2) where
  pub word_too_many : (back : Part) → more ≡ Some back → FirstNo (line_questions (b ∷ 32 ∷ bs)) (Script WordCount)
  word_too_many back some =
      count_no b bs 2 _ want (plain b bs 2 want (omega arith)) (λ e. omega (arith, ap length (cut_more bs at front back (subst (Cut 32 bs at front) some cut)), words_some back.bytes.now))

  module _ (w : Word) (none : more ≡ None) (is : IsWord w front.bytes.now front.at) where
    only : Cut 32 bs at front None
    only = subst (Cut 32 bs at front) none cut

    has_one : words_of (b ∷ 32 ∷ bs) ≡ (b ∷ []) ∷ front.bytes.now ∷ []
    has_one = plain b bs 2 want (omega arith) ∙ ap (λ ws. (b ∷ []) ∷ ws) (cut_whole bs at front only)

    pub number_no : value_of w ≡ None → FirstNo (line_questions (b ∷ 32 ∷ bs)) (Script Digits)
    number_no text = digits_no b bs 2 _ want has_one refl (λ each. no_number w front.bytes.now front.at is text each.0)

    pub number_yes : (n : ℕ) → value_of w ≡ Some n → AllYes (line_questions (b ∷ 32 ∷ bs)) × (b ∷ 32 ∷ bs ≡ b ∷ 32 ∷ decimal n)
    number_yes n number =
        let x = writes w front.bytes.now front.at n is number in
        (all_yes b bs 2 _ want has_one refl ((n, x), tt) tt, ap (λ l. b ∷ 32 ∷ l) (only.0.1 ∙ x.1))

-- two words and no more
module _ (bs : List ℕ) (at : ℕ) (v w : Word) (more : Option Part) (cut : TwoWords bs at v w more) (no_more : more ≡ None) where
  two : TwoWords bs at v w None
  two = subst (TwoWords bs at v w) no_more cut

  abbrev first : List ℕ
  first = two.first.bytes.now

  abbrev second : List ℕ
  second = two.second.bytes.now

  are_two : words bs ≡ first ∷ second ∷ []
  are_two = cut_more bs at two.first two.behind two.cut_first ∙ ap (λ ws. first ∷ ws) (cut_whole two.behind.bytes.now two.behind.at two.second two.cut_second)

  first_two : first_words 2 bs ≡ first ∷ second ∷ []
  first_two =
      ap (first_words 2) two.cut_first.0.1 ∙ first_more 2 first two.behind.bytes.now refl two.cut_first.0.0
      ∙ ap (λ ws. first ∷ ws) (ap (first_words 1) two.cut_second.0.1 ∙ first_one 1 second two.cut_second.0.0)

  joined : bs ≡ first ++ (32 ∷ second)
  joined = two.cut_first.0.1 ∙ ap (λ l. first ++ (32 ∷ l)) two.cut_second.0.1

  -- the letter w wants more
  pub write_no_text : FirstNo (line_questions (119 ∷ 32 ∷ bs)) (Script WordCount)
  write_no_text = count_no 119 bs 4 _ refl (ap (λ ws. (119 ∷ []) ∷ ws) first_two) (λ e. omega arith)

  -- the other letters want two numbers
  pub numbers_read : (r : Result (ℕ × ℕ) ScriptCause)
      → results.MatchResult r (λ p. (value_of v ≡ Some p.0) × (value_of w ≡ Some p.1)) (λ c. (c ≡ Digits) × ((value_of v ≡ None) ⊎ (value_of w ≡ None)))
      → (b : ℕ) → wanted b ≡ Some 3
      → ReadsAs (λ p. b ∷ 32 ∷ two_numbers p.0 p.1) (b ∷ 32 ∷ bs) r
  numbers_read r told b want = MatchResult-weaker r told both neither
    where
      line : words_of (b ∷ 32 ∷ bs) ≡ (b ∷ []) ∷ first ∷ second ∷ []
      line = plain b bs 3 want (omega arith) ∙ ap (λ ws. (b ∷ []) ∷ ws) are_two

      both : (p : ℕ × ℕ) → (value_of v ≡ Some p.0) × (value_of w ≡ Some p.1) → AllYes (line_questions (b ∷ 32 ∷ bs)) × (b ∷ 32 ∷ bs ≡ b ∷ 32 ∷ two_numbers p.0 p.1)
      both (n, m) (one, other) =
          let x = writes v first two.first.at n two.is_first one in
          let y = writes w second two.second.at m two.is_second other in
          (all_yes b bs 3 _ want line refl ((n, x), ((m, y), tt)) tt, ap (λ l. b ∷ 32 ∷ l) (joined ∙ numbers_joined first second n m x y))

      neither : (c : ScriptCause) → (c ≡ Digits) × ((value_of v ≡ None) ⊎ (value_of w ≡ None)) → FirstNo (line_questions (b ∷ 32 ∷ bs)) (Script c)
      neither c (is, none) = subst (λ x. FirstNo (line_questions (b ∷ 32 ∷ bs)) (Script x)) (sym is) (digits_no b bs 3 _ want line refl (λ each. not_both v w first second two.first.at two.second.at two.is_first two.is_second none each.0 each.1.0))

-- two words and more
module _ (bs : List ℕ) (at : ℕ) (v w : Word) (more : Option Part) (cut : TwoWords bs at v w more) (text : Part) (some_more : more ≡ Some text) where
  whole : TwoWords bs at v w (Some text)
  whole = subst (TwoWords bs at v w) some_more cut

  abbrev one : List ℕ
  one = whole.first.bytes.now

  abbrev other : List ℕ
  other = whole.second.bytes.now

  abbrev rest : List ℕ
  rest = text.bytes.now

  three : words bs ≡ one ∷ other ∷ words rest
  three = cut_more bs at whole.first whole.behind whole.cut_first ∙ ap (λ ws. one ∷ ws) (cut_more whole.behind.bytes.now whole.behind.at whole.second text whole.cut_second)

  line : words_of (119 ∷ 32 ∷ bs) ≡ (119 ∷ []) ∷ one ∷ other ∷ rest ∷ []
  line =
      ap (λ l. (119 ∷ []) ∷ first_words 2 l) whole.cut_first.0.1 ∙ ap (λ ws. (119 ∷ []) ∷ ws) (first_more 2 one whole.behind.bytes.now refl whole.cut_first.0.0)
      ∙ ap (λ ws. (119 ∷ []) ∷ one ∷ ws) (ap (first_words 1) whole.cut_second.0.1 ∙ first_more 1 other rest refl whole.cut_second.0.0 ∙ ap (λ ws. other ∷ ws) (first_all rest))

  pub too_many : (b : ℕ) → wanted b ≡ Some 3 → FirstNo (line_questions (b ∷ 32 ∷ bs)) (Script WordCount)
  too_many b want = count_no b bs 3 _ want (plain b bs 3 want (omega arith)) (λ e. omega (arith, ap length three, words_some rest))

  pub write_no_numbers : (value_of v ≡ None) ⊎ (value_of w ≡ None) → FirstNo (line_questions (119 ∷ 32 ∷ bs)) (Script Digits)
  write_no_numbers none = digits_no 119 bs 4 _ refl line refl (λ each. not_both v w one other whole.first.at whole.second.at whole.is_first whole.is_second none each.0 each.1.0)

  module _ (n p : ℕ) (is_n : value_of v ≡ Some n) (is_p : value_of w ≡ Some p) where
    n_is : Writes one n
    n_is = writes v one whole.first.at n whole.is_first is_n

    p_is : Writes other p
    p_is = writes w other whole.second.at p whole.is_second is_p

    pub write_bad_text : (IsText rest → ⊥) → FirstNo (line_questions (119 ∷ 32 ∷ bs)) (Script Text)
    write_bad_text bad = text_no 119 bs 4 _ refl line refl ((n, n_is), ((p, p_is), tt)) (λ each. bad each.0)

    pub write_yes : IsText rest → AllYes (line_questions (119 ∷ 32 ∷ bs))
    write_yes good = all_yes 119 bs 4 _ refl line refl ((n, n_is), ((p, p_is), tt)) (good, tt)

    pub write_is : bs ≡ two_numbers n p ++ codes " " ++ rest
    write_is =
        whole.cut_first.0.1 ∙ ap (λ l. one ++ (32 ∷ l)) whole.cut_second.0.1 ∙ sym (append_assoc one (32 ∷ other) (32 ∷ rest))
        ∙ ap (λ l. l ++ (32 ∷ rest)) (numbers_joined one other n p n_is p_is) ∙ sym (append_assoc (two_numbers n p) (32 ∷ []) rest)

-- a word that is missing
pub missing : {X : Type 0} (o : Option X) (r : Result X ScriptCause) (c : ScriptCause) → r ≡ ok_or o WordCount → r ≡ Err c → (o ≡ None) × (c ≡ WordCount)
missing {X} None r c is e = (refl, let same : ◌≡◌ {A = Result X ScriptCause} (Err WordCount) (Err c) = sym is ∙ e in cc)
missing {X} (Some x) r c is e = absurd (let no : ◌≡◌ {A = Result X ScriptCause} (Ok x) (Err c) = sym is ∙ e in cc)

-- words that are not
pub found : {bs : List ℕ} {at : ℕ} {o : Option (Word × Word × Option Part)} {r : Result (Word × Word × Option Part) ScriptCause} {p : Word × Word × Option Part}
    → options.MatchOption o (Without 32 bs) (λ p. TwoWords bs at p.0 p.1 p.2) → o ≡ results.result_ok r → r ≡ Ok p → TwoWords bs at p.0 p.1 p.2
found {bs} {at} told ok is = subst (λ x. options.MatchOption x (Without 32 bs) (λ p. TwoWords bs at p.0 p.1 p.2)) (ok ∙ ap results.result_ok is) told

-- a refusal that is handed on
pub handed_on : {X : Type 0} (P : X → Type 0) (line : List ℕ) (r : Result X ScriptCause) (c w : ScriptCause) → IsErrAnd r (λ y. y ≡ c) → c ≡ w → FirstNo (line_questions line) (Script w)
    → results.MatchResult r P (λ x. FirstNo (line_questions line) (Script x))
handed_on P bs r c w by is refused =
    let p = err_from_is_err_and r by in
    subst (λ x. results.MatchResult x P (λ y. FirstNo (line_questions bs) (Script y))) (sym (p.1 ∙ ap Err (p.2 ∙ is))) refused

-- what a line writes, made a call
pub made_call : {X : Type 0} (text : X → List ℕ) (bs : List ℕ) (r : Result X ScriptCause) (s : Result Call ScriptCause) (P : X → Call → Type 0)
    → ReadsAs text bs r
    → results.MatchResult r (λ x. results.IsOkAnd s (P x)) (λ e. s ≡ Err e)
    → ((x : X) (c : Call) → P x c → call_text c ≡ text x)
    → ReadsCall bs s
made_call text bs (Ok x) (Ok c) P (all, is) made same = (all, is ∙ sym (same x c made))
made_call text bs (Ok x) (Err e) P told made same = absurd made
made_call text bs (Err e) s P told made same = subst (ReadsCall bs) (sym made) told

-- a slice by its first two bytes
opens : (xs : List ℕ) (a b : ℕ) → 2 ≤ length xs → get_or xs 0 0 ≡ a → get_or xs 1 0 ≡ b → xs ≡ a ∷ b ∷ take (length xs - 2) (drop 2 xs)
opens [] a b h p q = absurd (omega arith)
opens (x ∷ []) a b h p q = absurd (omega arith)
opens (x ∷ y ∷ rest) a b h p q = rw (p, q) (ap (λ l. a ∷ b ∷ l) (sym (take_rest (x ∷ y ∷ rest) 2)))

-- what such a slice reads
pub as_line : (xs : List ℕ) (r : Result Call ScriptCause) (b : ℕ) → 2 ≤ length xs → get_or xs 0 0 ≡ b → get_or xs 1 0 ≡ 32 → ReadsCall (b ∷ 32 ∷ take (length xs - 2) (drop 2 xs)) r → ReadsCall xs r
as_line xs r b h p q = subst (λ l. ReadsCall l r) (sym (opens xs b 32 h p q))
