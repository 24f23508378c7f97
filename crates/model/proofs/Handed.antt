-- The blocks that were handed out in a run are those owned at its end, and each goes back once no dataset reaches it.
use Rattle.std.proofs.Common.{◌≡◌, ℕ, true, false, ◌⊎◌, ◌↔◌, inl, inr}
use Rattle.std.proofs.lemmas.Bool.{cases_Bool, both_ways}
use Rattle.model.specs.Datasets.{State, Reached}
use Rattle.model.specs.Life.{Run, start, call, HandsOut, GivesBack, Out, Ends}
use Rattle.model.specs.Soundness.{Sound}
use Rattle.model.proofs.Keeps.{steps_keep_sound}

-- every state of a run is sound
pub sound_after : {s t : State} → Run s t → Sound s → Sound t
sound_after start sound = sound
sound_after (call {t} {u} run c r step) sound = steps_keep_sound t c r u (sound_after run sound) step

-- the owned blocks are those handed out and not given back since
pub owned_out : {s t : State} (run : Run s t) → ((b : ℕ) → s.owns b ≡ false) → (b : ℕ) → (t.owns b ≡ true) ↔ Out run b
unfolding Out
owned_out {s} start none b = ((λ own. both_ways (s.owns b) (none b) own), (λ out. absurd out))
owned_out (call {t} {u} run c r step) none b = (there (owned_out run none b) (cases_Bool (t.owns b)), back (owned_out run none b) (cases_Bool (u.owns b)))
  where
    there : (t.owns b ≡ true) ↔ Out run b → (t.owns b ≡ true) ⊎ (t.owns b ≡ false) → u.owns b ≡ true → HandsOut t u b ⊎ (Out run b × (GivesBack t u b → ⊥))
    there before (inl own) now = inr (before.0 own, λ gives. both_ways (u.owns b) gives.1 now)
    there before (inr free) now = inl (free, now)

    back : (t.owns b ≡ true) ↔ Out run b → (u.owns b ≡ true) ⊎ (u.owns b ≡ false) → HandsOut t u b ⊎ (Out run b × (GivesBack t u b → ⊥)) → u.owns b ≡ true
    back before _ (inl hands) = hands.1
    back before (inl now) (inr _) = now
    back before (inr free) (inr (out, kept)) = absurd (kept (before.1 out, free))

-- the last call gives back just the blocks that were out and that no dataset reaches after it
pub ends : {s t : State} (run : Run s t) → ((b : ℕ) → s.owns b ≡ false) → Sound t → Ends run
unfolding Ends
ends start none sound = tt
ends (call {t} {u} run c r step) none sound = λ b. (there b, back b (cases_Bool (u.owns b)))
  where
    there : (b : ℕ) → GivesBack t u b → Out run b × (Reached u b → ⊥)
    there b gives = ((owned_out run none b).0 gives.0, λ reached. both_ways (u.owns b) gives.1 ((sound.owned b).1 reached))

    back : (b : ℕ) → (u.owns b ≡ true) ⊎ (u.owns b ≡ false) → Out run b × (Reached u b → ⊥) → GivesBack t u b
    back b (inl own) (_, unreached) = absurd (unreached ((sound.owned b).0 own))
    back b (inr free) (out, _) = ((owned_out run none b).1 out, free)
