-- The note of a well-formed memory is one that memory can hold.
use mathlib.Core.Path.{◌≡◌, sym, ap, subst}
use mathlib.Core.Bool.{true}
use mathlib.Core.Logic.{◌⊎◌, ⊎_elim}
use mathlib.Core.List.{List}
use Prim.Native.Nat.{ℕ, ◌<◌}
use native.Mathlib.Omega.{arith}
use lib.ListN.{length}
use Rattle.plain.specs.Chars.{all_scalar, encode}
use Rattle.plain.specs.Utf8.{decode}
use Rattle.plain.proofs.Logic.{cut}
use Rattle.plain.proofs.Utf8.{valid-sound}
use Rattle.plain_note.specs.Note.{limit}
use Rattle.plain_calls.specs.Fits.{Placed, Fits}
use Rattle.note_head.specs.Head.{n_of, mark_at, own_of}
use Rattle.note_head.proofs.Own.{own-n}
use Rattle.memory.specs.Formed.{note_bytes, well_formed, note_of}
use Rattle.edit_steps.proofs.Laws.{held-valid}
use Rattle.marks.proofs.Written.{live-mark, free-mark, marks-length}
use Rattle.note_promise.proofs.Shape.{Shaped, formed-shaped, formed-fine}
use Rattle.note_promise.proofs.MarkCalls.{mark-is, mark-none}

module _ (m : List ℕ) (ok : well_formed m ≡ true) where
  abbrev text : List ℕ
  text = (note_of m).text

  shape : Shaped m (note_bytes (own_of m))
  shape = formed-shaped m ok

  sound-text : (all_scalar (decode (note_bytes (own_of m))) ≡ true) × (encode (decode (note_bytes (own_of m))) ≡ note_bytes (own_of m))
  sound-text = valid-sound (note_bytes (own_of m)) (held-valid (own_of m) (n_of m) (note_bytes (own_of m)) shape.held)

  placed-in : (k : ℕ) → k < 256 → Placed text (mark_at m k)
  placed-in k l =
      ⊎_elim (λ z. subst (Placed text) (sym (free-mark m k (λ e. omega arith))) tt)
      (λ p. subst (Placed text) (sym (live-mark m k p.0)) p.1)
      (formed-fine m ok k l)

  -- THEOREM: the note of well-formed memory fits
  pub formed-fits : Fits (note_of m)
  formed-fits =
      record {
        least = omega (arith, shape.held.least, own-n m);
        most = omega (arith, shape.held.most, own-n m);
        scalars = sound-text.0;
        size = omega (arith, ap length sound-text.1, shape.small, ap (λ (n : ℕ). limit n) (own-n m));
        count = marks-length (own_of m) 0 256;
        placed = λ k. cut k 256
            (λ l. subst (Placed text) (sym (mark-is m k l)) (placed-in k l))
            (λ l. subst (Placed text) (sym (mark-none m k l)) tt);
      }
