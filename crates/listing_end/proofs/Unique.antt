-- No second outcome: the end of a listing that is put settles how far the output is filled, and every byte of it.
use mathlib.Core.Path.{◌≡◌, refl, sym, ◌∙◌}
use mathlib.Core.Bool.{Bool, true, false}
use mathlib.Core.List.{List}
use Prim.Native.Nat.{ℕ}
use Rattle.memory.specs.Formed.{well_formed, note_of}
use Rattle.plain_journal.specs.Listing.{ending}
use Rattle.listing_lines.proofs.Unique.{puts_one}
use Rattle.listing_end.specs.Ends.{Ends}

-- THEOREM
pub ends-one : (m : List ℕ) (at : ℕ) (o : List ℕ) (r s : ℕ) (x y : List ℕ) → Ends m at o r x → Ends m at o s y → (r ≡ s) × (x ≡ y)
ends-one m at o r s x y v w = go (well_formed m) refl
  where
    go : (t : Bool) → well_formed m ≡ t → (r ≡ s) × (x ≡ y)
    go true e = puts_one at (ending (note_of m)) o r s x y 20590 (v.0 e) (w.0 e)
    go false e = ((v.1 e).0 ∙ sym (w.1 e).0, (v.1 e).1 ∙ sym (w.1 e).1)
