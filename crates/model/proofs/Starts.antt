-- A pool just formatted is sound: it has no dataset, no dead record and no owned block.
use Rattle.std.proofs.Common.{◌≡◌, Some, None, sym, refl, ◌∙◌, true≢false, arith}
use Rattle.records.specs.declared.rows.Row.{Row}
use Rattle.model.specs.Laws.{FormattedSound}
use Rattle.model.proofs.Rows.{some_none}

-- no dataset is found
none : {A : Type 0} (r : Row) → None ≡ Some r → A
none r there = absurd (some_none None r there refl)

pub formatted_sound : FormattedSound
formatted_sound memory rows dead size owns asked = record {
  shape = record {
    size = asked.0.0;
    memory = asked.0.1;
    row_room = asked.0.2;
    dead_room = asked.0.3;
    rows_fit = omega arith;
    dead_fit = omega arith;
    ordered = λ i j d lt low. absurd (omega arith);
    dead_ordered = λ i j d lt low. absurd (omega arith);
    numbers = λ n r there. none r there;
    heights = λ n r there. none r there;
    group = (omega arith, omega arith);
    stamps = λ n t is. none is.0 is.1;
    below = λ b own. absurd (true≢false (sym own ∙ asked.1.0 b));
  };
  family = record {
    head = λ n o r there is. none r there;
    owner = λ n r there. none r there;
    origin = λ n m is. none is.0 is.1;
    previous = λ n m r there is. none r there;
    within = λ n m r x there beside is o head. none r there;
    first = λ n r there is. none r there;
    alone = λ n m r x there beside owners previous. none r there;
    next = λ n t r there is. none r there;
  };
  pointers = record {
    inside = λ n d i q has. none has.row has.found;
    births = λ n d i r q there has. none r there;
    falls = λ n d i q x has above. none has.row has.found;
    full = λ n d i r q there deep has. none r there;
  };
  identity = λ n m d e i j q x has also same. none has.row has.found;
  birth_law = λ n d i r q there has old. none r there;
  one_young = λ n m b young also. none young.0 young.2;
  owned = λ b. ((λ own. absurd (true≢false (sym own ∙ asked.1.0 b))), (λ (n, (q, (d, i, has), e)). none has.row has.found));
  dead = λ n q. ((λ buried. absurd (some_none _ _ buried refl)), (λ (m, (r, there, is), points, gone). none r there));
  born = λ n r there. none r there;
}
