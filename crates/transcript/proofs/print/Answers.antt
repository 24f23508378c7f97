use Rattle.std.proofs.Common.{◌≡◌, ℕ, List, [], ◌++◌, take, replicate, vec_items, sym, refl, subst, append-nil, arith, rules}
use Rattle.script.specs.Consoles.{Console, Next, Over, Prints, none, opened}
use Rattle.script.specs.Sessions.{console_of}
use Rattle.script.proofs.Runs.{shorter, printed_more}
use Rattle.transcript.proofs.print.Goals as goal

-- the line that was printed in this turn
next : (c : goal.In_ok-extend_from_slice) → Next (console_of c.loop-len.session) (take c.in-Ok-Some.len c.print_next.new.out) (console_of c.print_next.new.self)
next c = rw c.in-Ok-Some.field-0-is at (c.in-Ok-Some.ensures.printed c.loop-len.invariant.0)

pub loop-len-init : goal.loop-len-init
loop-len-init c = (
  c.open-session.ensures.ready,
  refl,
  λ rest printed.
      subst (λ (out : List ℕ). Prints (opened (replicate 16384 0) c.args.script.now) (out ++ rest)) (sym c.new-out.ensures.items)
      (subst (λ (x : Console). Prints x rest) c.open-session.ensures.value printed),
)

pub loop-len-smaller : goal.loop-len-smaller
loop-len-smaller c = shorter _ _ _ (next c)

pub loop-len-preserved : goal.loop-len-preserved
loop-len-preserved c = (
  c.in-Ok-Some.ensures.ready c.loop-len.invariant.0,
  omega (arith, c.print_next.auto.out, c.loop-len.invariant.1),
  λ rest more.
      let all : vec_items c.extend_from_slice.new.self ≡ vec_items c.loop-len.out ++ take c.in-Ok-Some.len c.print_next.new.out = search rules in
      subst (λ (out : List ℕ). Prints (opened (replicate 16384 0) c.args.script.now) (out ++ rest)) (sym all)
      (printed_more _ _ (Prints (opened (replicate 16384 0) c.args.script.now)) (vec_items c.loop-len.out) _ c.loop-len.invariant.2 (next c) rest more),
)

pub returns : goal.returns
returns c =
    let over : Over (console_of c.loop-len.session) = search rules in
    record { prints = subst (Prints (opened (replicate 16384 0) c.args.script.now)) (append-nil (vec_items c.loop-len.out)) (c.loop-len.invariant.2 [] (none over)) }
