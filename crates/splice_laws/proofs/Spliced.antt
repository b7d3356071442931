-- An edit of one leaf of the note, from the root down and up again: the note holds the new bytes, and no slot was wanting.
use mathlib.Core.Path.{◌≡◌, refl, ap, ◌∙◌}
use mathlib.Core.Logic.{◌⊎◌}
use mathlib.Core.Bool.{true}
use mathlib.Core.List.{List, [], ◌++◌}
use Prim.Native.Nat.{ℕ, ◌+◌, ◌≤◌}
use native.Mathlib.Omega.{arith}
use lib.ListN.{length}
use Rattle.plain.specs.Utf8.{valid_utf8}
use Rattle.plain.specs.Place.{is_boundary}
use Rattle.plain.specs.Edit.{replaced}
use Rattle.plain.specs.Outcome.{Outcome.value}
use Rattle.plain_note.specs.Note.{limit}
use Rattle.child_search.specs.declared.Measure.{Measure}
use Rattle.nodes.specs.Node.{text_of}
use Rattle.tree.specs.Tree.{uses, least_root}
use Rattle.tree_search.proofs.Parted.{Ends}
use Rattle.tree_search.proofs.Seams.{Whole}
use Rattle.note_head.specs.Head.{root_of, height_of}
use Rattle.edit_steps.specs.Made.{Made, Made.same, Made.split, Made.small, Made.apart}
use Rattle.edit_steps.specs.Acts.{Act}
use Rattle.edit_steps.specs.Grown.{MadeIs}
use Rattle.edit_steps.specs.Held.{Held, Kept}
use Rattle.edit_steps.proofs.Laws.{held-room, held_low, held-once}
use Rattle.descent.specs.declared.Part.TheVariants.{Bytes}
use Rattle.descent.proofs.Descends.{Roomy, descends}
use Rattle.root_step.proofs.Rooted.{root-held}
use Rattle.splices.specs.Splices.{rooted_after, descended, spliced, lay}

-- the note holds the new bytes, and the head's other parts are as they were; the edit was done
pub record SpliceHeld (m : List ℕ) (n : ℕ) (by : Measure) (at i e : ℕ) (piece new : List ℕ) : Type 0 where
  pub later : List ℕ
  pub is : spliced m by at (Bytes i e) piece ≡ (value tt, later)
  pub held : Held later n new
  pub kept : Kept m later
  pub there : lay (descended m by at (Bytes i e) piece).0 ≡ true

-- an edit that made something of a node
lay-made : (m later : List ℕ) (n d : ℕ) (u : ℕ → ℕ) (h s : ℕ) (t : List ℕ) (made : Made) → MadeIs m later n d u h s t made → lay (value made) ≡ true
lay-made m later n d u h s t (same i) w = refl
lay-made m later n d u h s t (split i v j) w = refl
lay-made m later n d u h s t (small i) w = refl
lay-made m later n d u h s t apart w = absurd w

module _ (m : List ℕ) (n : ℕ) (t : List ℕ) (w : Held m n t) where
  roomy : Roomy m n (height_of m) (root_of m).slot (least_root (height_of m))
  roomy =
      record {
        few = omega (arith, w.most);
        slotted = w.slotted;
        enough = omega arith;
        good = w.good;
        once = held-once m n t w;
        room = omega (arith, held-room m n t w, held_low m n t w);
      }

  -- THEOREM: [i, e) of the leaf that a search found gives way to a piece, where all seams stay whole and what is left has room
  pub splice-held : (by : Measure) (at : ℕ) (r : Ends m (height_of m) (root_of m).slot by at) (i e : ℕ) (piece : List ℕ)
      → i ≤ e → is_boundary (text_of m r.leaf) i ≡ true → is_boundary (text_of m r.leaf) e ≡ true
      → valid_utf8 piece ≡ true → length piece ≤ 256 → (piece ≡ []) ⊎ (i ≡ e)
      → Whole r.before (replaced i e piece (text_of m r.leaf) ++ r.after) → Whole (replaced i e piece (text_of m r.leaf)) r.after
      → length (r.before ++ (replaced i e piece (text_of m r.leaf) ++ r.after)) ≤ limit n + 1
      → SpliceHeld m n by at i e piece (r.before ++ (replaced i e piece (text_of m r.leaf) ++ r.after))
  unfolding spliced
  splice-held by at r i e piece order start end valid short way front back size =
      let d = descends m n (height_of m) (root_of m).slot (least_root (height_of m)) by at i e piece roomy r
      (record {
        order = order;
        start = start;
        end = end;
        piece-valid = valid;
        piece-short = short;
        one_way = way;
        seam-before = front;
        seam-after = back;
        short = omega (arith, size, w.most);
      }) in
      let new : List ℕ = r.before ++ (replaced i e piece (text_of m r.leaf) ++ r.after) in
      let h = root-held m d.later n (height_of m + 1) t new d.made w d.makes (omega (arith, held-room m n t w, held_low m n t w)) size d.some in
      record {
        later = h.later;
        is = ap (λ (o : Act Made). rooted_after o) d.is ∙ h.is;
        held = h.held;
        kept = h.kept;
        there = ap (λ (o : Act Made). lay o.0) d.is ∙ lay-made m d.later n (height_of m + 1) (uses m (height_of m) (root_of m).slot) (height_of m) (root_of m).slot new d.made d.makes;
      }
