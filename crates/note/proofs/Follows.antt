-- What `follow` leaves behind an edit that was accepted; and a piece of no bytes.
use Rattle.answer.specs.Answers.{Answer, outcome}
use Rattle.std.specs.Prelude.{Ok, Err}
use mathlib.Core.Path.{◌≡◌, refl, ap, ◌∙◌}
use mathlib.Core.List.{List, [], ◌∷◌}
use Prim.Native.Nat.{ℕ}
use native.Mathlib.Omega.{arith}
use lib.IntN.{ℤ}
use lib.ListN.{length}
use Rattle.plain.specs.Outcome.{Outcome, kept}
use Rattle.plain_note.specs.Note.{Note}
use Rattle.answer.specs.declared.Refusal.{Refusal}
use Rattle.pool.specs.Calls.{Wrote}
use Rattle.edit_promise.specs.Edited.{Edited}
use Rattle.marks.specs.MarkBytes.{edited_put, edited}
use Rattle.marks.proofs.Rules.{follow-it}
use Rattle.pool.proofs.Opened.{wrote-never}
use Rattle.note_promise.proofs.Promise.{accepted-long}

pub none : (piece : List ℕ) → length piece ≡ 0 → piece ≡ []
none [] e = refl
none (x ∷ xs) e = absurd (omega arith)

-- memory in which an edit was accepted has a head to write to: the marks are moved, and that is not refused
pub follow-there : {o : Note → Outcome (List ℕ)} {idle : Type 0} (m : List ℕ) (r : Answer ℤ) (a : List ℕ) → Edited o idle m r a → {d : ℤ} → r ≡ Ok d
    → (s e new : ℕ) (v : Answer (Unit {0})) (after : List ℕ) → Wrote (edited a s e new) a v after → after ≡ edited_put a s e new
follow-there {o} {idle} m r a w {d} f s e new v after t =
    t.memory ∙ ap (λ (x : Outcome (List ℕ)). kept a x) (follow-it a s e new (accepted-long o idle m r a w d (ap outcome f)))

pub follow-never : {X : Type 0} {o : Note → Outcome (List ℕ)} {idle : Type 0} (m : List ℕ) (r : Answer ℤ) (a : List ℕ) → Edited o idle m r a → {d : ℤ} → r ≡ Ok d
    → (s e new : ℕ) (v : Answer (Unit {0})) (after : List ℕ) → Wrote (edited a s e new) a v after → (q : Refusal) → v ≡ Err q → X
follow-never {X} {o} {idle} m r a w {d} f s e new v after t q g =
    wrote-never (edited a s e new) a v after t (edited_put a s e new) (follow-it a s e new (accepted-long o idle m r a w d (ap outcome f))) q g
