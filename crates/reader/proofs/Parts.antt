-- A run on any memory: it is the rest of one leaf's text, and behind an empty one the place stays.
use mathlib.Core.Path.{◌≡◌, refl, ap, ◌∙◌}
use mathlib.Core.Bool.{Bool, true, false}
use mathlib.Core.List.{List, []}
use Prim.Native.Nat.{ℕ, ◌+◌, ◌-◌, ◌≤◌}
use native.Mathlib.Omega.{arith}
use lib.ListN.{length, drop}
use lib.Seq.{drop-nil}
use Rattle.plain.specs.Count.{count_if}
use Rattle.plain.specs.Place.{is_start}
use Rattle.plain.specs.Outcome.{Outcome, Outcome.value, Outcome.refused, part, mapped}
use Rattle.plain.proofs.Logic.{cut}
use Rattle.text_info.specs.declared.TextSum.{TextSum}
use Rattle.octets.specs.Big.{two_at, four_at}
use Rattle.pool.specs.Slot.{kid_at}
use Rattle.child_search.specs.declared.Measure.TheVariants.{Chars}
use Rattle.nodes.specs.Node.{is_leaf, text_of}
use Rattle.note_head.specs.Head.{root_of, own_of}
use Rattle.leaf_parts.specs.Parts.{leaf_text, byte_in, spot_of, chars_behind, from_char}
use Rattle.leaf_parts.proofs.Found.{text-none, text-is}
use Rattle.reader.specs.Handed.{run_at, behind_of}
use Rattle.reader.proofs.Rules.{run-here, run-over}

-- the text of the leaf in slot s, from its byte k on
pub record InLeaf (m t : List ℕ) : Type 0 where
  pub slot : ℕ
  pub from : ℕ
  pub leaf : is_leaf m slot ≡ true
  pub is : t ≡ drop from (text_of m slot)

module _ (m : List ℕ) (p : ℕ) where
  chars-in-leaf : (r : ℕ × TextSum) → 1 ≤ length (chars_behind m p r) → InLeaf m (chars_behind m p r)
  chars-in-leaf r h = go (is_leaf m r.0) refl
    where
      k : ℕ
      k = byte_in (leaf_text m r.0) (p - r.1.chars)

      go : (t : Bool) → is_leaf m r.0 ≡ t → InLeaf m (chars_behind m p r)
      go true e = record { slot = r.0; from = k; leaf = e; is = ap (drop k) (text-is m r.0 e) }
      go false e = absurd (omega (arith, ap length (ap (drop k) (text-none m r.0 e) ∙ drop-nil k)))

  from-in-leaf : 1 ≤ length (from_char m p) → InLeaf m (from_char m p)
  unfolding from_char
  from-in-leaf h = go (spot_of m Chars p) h
    where
      go : (o : Outcome (ℕ × TextSum)) → 1 ≤ length (part (mapped (chars_behind m p) o)) → InLeaf m (part (mapped (chars_behind m p) o))
      go (value r) l = chars-in-leaf r l
      go (refused n) l = absurd (omega arith)

-- THEOREM: a run that is not empty is the rest of one leaf's text.
pub run-in-leaf : (m : List ℕ) (p : ℕ) → 1 ≤ length (run_at m p) → InLeaf (own_of m) (run_at m p)
run-in-leaf m p h =
    cut p (root_of m).info.chars
    (λ l. rw (run-here m p _ refl l) (from-in-leaf (own_of m) p (omega (arith, ap length (run-here m p _ refl l)))))
    (λ l. absurd (omega (arith, ap length (run-over m p _ refl l))))

-- THEOREMS: behind an empty run is the same place, so all that follow are empty; and without memory there are no runs.
pub end_stays : (m : List ℕ) (p : ℕ) → run_at m p ≡ [] → behind_of m p ≡ p
unfolding count_if
end_stays m p e = ap (λ (t : List ℕ). p + count_if is_start t) e ∙ omega arith

pub no-runs : (p : ℕ) → run_at [] p ≡ []
unfolding root_of kid_at four_at two_at
no-runs p = run-over [] p _ refl (omega arith)
