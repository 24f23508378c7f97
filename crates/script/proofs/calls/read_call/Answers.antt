use Rattle.std.proofs.Common.{sym, refl, ◌∙◌, rules}
use Rattle.script.proofs.Readings.{as_line, made_call}
use Rattle.script.proofs.calls.read_call.Goals as goal

pub returns-in-c : goal.returns-in-c
returns-in-c c = record {
  cases = as_line _ _ 99 (search rules) (sym c.from.ensures ∙ c.in-c.is) (search rules)
      (made_call _ _ c.read_numbers.result c.map.result _ (c.read_numbers.ensures.cases 99 refl) c.map.ensures.cases (λ p call made. search rules));
}

pub returns-in-x : goal.returns-in-x
returns-in-x c = record {
  cases = as_line _ _ 120 (search rules) (sym c.from.ensures ∙ c.in-x.is) (search rules)
      (made_call _ _ c.read_numbers-in-x.result c.map-in-x.result _ (c.read_numbers-in-x.ensures.cases 120 refl) c.map-in-x.ensures.cases (λ p call made. search rules));
}

pub returns-in-p : goal.returns-in-p
returns-in-p c = record {
  cases = as_line _ _ 112 (search rules) (sym c.from.ensures ∙ c.in-p.is) (search rules)
      (made_call _ _ c.read_numbers-in-p.result c.map-in-p.result _ (c.read_numbers-in-p.ensures.cases 112 refl) c.map-in-p.ensures.cases (λ p call made. search rules));
}

pub returns-in-s : goal.returns-in-s
returns-in-s c = record {
  cases = as_line _ _ 115 (search rules) (sym c.from.ensures ∙ c.in-s.is) (search rules)
      (made_call _ _ c.read_numbers-in-s.result c.map-in-s.result _ (c.read_numbers-in-s.ensures.cases 115 refl) c.map-in-s.ensures.cases (λ p call made. search rules));
}

pub returns-in-k : goal.returns-in-k
returns-in-k c = record {
  cases = as_line _ _ 107 (search rules) (sym c.from.ensures ∙ c.in-k.is) (search rules)
      (made_call _ _ c.read_numbers-in-k.result c.map-in-k.result _ (c.read_numbers-in-k.ensures.cases 107 refl) c.map-in-k.ensures.cases (λ p call made. search rules));
}

pub returns-in-d : goal.returns-in-d
returns-in-d c = record {
  cases = as_line _ _ 100 (search rules) (sym c.from.ensures ∙ c.in-d.is) (search rules)
      (made_call _ _ c.read_number.result c.map-in-d.result _ (c.read_number.ensures.cases 100 refl) c.map-in-d.ensures.cases (λ p call made. search rules));
}

pub returns-in-u : goal.returns-in-u
returns-in-u c = record {
  cases = as_line _ _ 117 (search rules) (sym c.from.ensures ∙ c.in-u.is) (search rules)
      (made_call _ _ c.read_number-in-u.result c.map-in-u.result _ (c.read_number-in-u.ensures.cases 117 refl) c.map-in-u.ensures.cases (λ p call made. search rules));
}

pub returns-in-a : goal.returns-in-a
returns-in-a c = record {
  cases = as_line _ _ 97 (search rules) (sym c.from.ensures ∙ c.in-a.is) (search rules)
      (made_call _ _ c.read_number-in-a.result c.map-in-a.result _ (c.read_number-in-a.ensures.cases 97 refl) c.map-in-a.ensures.cases (λ p call made. search rules));
}
