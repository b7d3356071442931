-- The law of a step: in a memory whose free slots are a chain, an edit of a leaf makes what `MadeIs` says of it, with the edited text.
use mathlib.Core.Path.{◌≡◌, refl, sym, ap, subst, ◌∙◌}
use mathlib.Core.Bool.{true}
use mathlib.Core.List.{List, []}
use mathlib.Core.Logic.{◌⊎◌, inl, inr}
use Prim.Native.Nat.{ℕ, ◌+◌, ◌-◌, ◌≤◌, ◌<◌}
use native.Mathlib.Omega.{arith}
use lib.ListN.{length}
use Rattle.plain.specs.Utf8.{valid_utf8, decode}
use Rattle.plain.specs.Place.{is_boundary}
use Rattle.plain.specs.Edit.{replaced, put_in}
use Rattle.plain.specs.Outcome.{Outcome.value}
use Rattle.plain.proofs.Logic.{cut}
use Rattle.leaf_bytes.specs.Split.{half_split}
use Rattle.leaf_bytes.specs.Raw.{cut_at}
use Rattle.text_info.specs.Info.{info_of}
use Rattle.node_text.proofs.Rules.{Meets}
use Rattle.node_text.proofs.Parts.{boundary-le}
use Rattle.pool.specs.Slot.{len_of, next_of, region_of}
use Rattle.pool.proofs.Slots.{region-length}
use Rattle.nodes.specs.Node.{is_leaf, text_of, leaf_put}
use Rattle.nodes.proofs.Heads.{leaf-says}
use Rattle.nodes.proofs.Accepted.{text-length}
use Rattle.tree.specs.Tree.{hit}
use Rattle.note_head.specs.Head.{free_of}
use Rattle.edit_steps.specs.Became.{free, spare, Slotted}
use Rattle.edit_steps.specs.Grown.{MadeIs}
use Rattle.edit_steps.specs.Made.{Made, Made.split, sized}
use Rattle.leaf_step.specs.Steps.{two_leaves, leaf_stepped}
use Rattle.leaf_step.proofs.Rules.{step-over, step_fits, over-is, over-not}
use Rattle.leaf_step.proofs.Fits.{fit-value, fit-made}
use Rattle.leaf_step.proofs.Splits.{split-value, split-made}

-- the leaf in slot s, which is not free, and an edit of its text
pub record Editable (m : List ℕ) (n s i e : ℕ) (piece : List ℕ) : Type 0 where
  pub slotted : Slotted m n
  pub leaf : is_leaf m s ≡ true
  pub used : free m n s ≡ 0
  pub valid : valid_utf8 (text_of m s) ≡ true
  pub order : i ≤ e
  pub start : is_boundary (text_of m s) i ≡ true
  pub end : is_boundary (text_of m s) e ≡ true
  pub piece-valid : valid_utf8 piece ≡ true

-- what it makes, with at most d free slots spent
pub record StepMade (m : List ℕ) (n d s i e : ℕ) (piece : List ℕ) : Type 0 where
  pub made : Made
  pub later : List ℕ
  pub answer : leaf_stepped m s i e piece ≡ value (made, later)
  pub is : MadeIs m later n d (hit s) 0 s (replaced i e piece (text_of m s)) made

module _ (m : List ℕ) (n s i e : ℕ) (piece : List ℕ) (r : Editable m n s i e piece) where
  call : Meets (region_of m s) (len_of m s) i e piece
  call =
      let f = leaf-says m s r.leaf in
      record {
        small = f.2;
        room = omega (arith, f.2, region-length m s f.0);
        order = r.order;
        start = r.start;
        end = r.end;
        leaf-valid = r.valid;
        piece-valid = r.piece-valid;
      }

  -- THEOREM: where there is room in the leaf, it spends no slot
  pub step-fitting : (d : ℕ) → length piece + len_of m s ≤ 512 → StepMade m n d s i e piece
  step-fitting d h =
      let new = replaced i e piece (text_of m s) in
      let b = boundary-le (text_of m s) e r.end in
      let room : i + length piece + (len_of m s - e) ≤ 512 = omega (arith, r.order, b, text-length m s r.leaf) in
      record {
        made = sized 128 (length new) (info_of (decode new));
        later = leaf_put m s new;
        answer = step_fits m s i e piece r.leaf (over-not m s i e piece h) ∙ fit-value m n s i e piece r.slotted r.leaf r.used call room;
        is = fit-made m n s i e piece r.slotted r.leaf r.used call room d;
      }

  -- THEOREM: a removal spends none
  pub step-removed : (d : ℕ) → piece ≡ [] → StepMade m n d s i e piece
  step-removed d q = step-fitting d (omega (arith, ap length q, (leaf-says m s r.leaf).2))

module _ (m : List ℕ) (n s i : ℕ) (piece : List ℕ) (few : n < 4294967296) (short : length piece ≤ 256) (room : 1 ≤ spare m n) where
  parting : Editable m n s i i piece → 512 < length piece + len_of m s → StepMade m n 1 s i i piece
  parting r h =
      let c = call m n s i i piece r in
      let new = put_in i piece (text_of m s) in
      let sides = cut_at new (half_split new) in
      record {
        made = split (info_of (decode sides.0)) (free_of m) (info_of (decode sides.1));
        later = (two_leaves m s (free_of m) (next_of m (free_of m)) sides).1;
        answer = step-over m s i i piece r.leaf (over-is m s i i piece refl h) ∙ split-value m n few r.slotted s i piece r.leaf r.used c h short room;
        is = split-made m n few r.slotted s i piece r.leaf r.used c h short room;
      }

  -- THEOREM: an insertion spends at most one
  pub step-inserted : Editable m n s i i piece → StepMade m n 1 s i i piece
  step-inserted r = cut 512 (length piece + len_of m s) (parting r) (step-fitting m n s i i piece r 1)

-- THEOREM: a removal, or an insertion where a slot is free
pub step-made : (m : List ℕ) (n s i e : ℕ) (piece : List ℕ) → Editable m n s i e piece → n < 4294967296 → length piece ≤ 256
    → (piece ≡ []) ⊎ ((i ≡ e) × (1 ≤ spare m n)) → StepMade m n 1 s i e piece
step-made m n s i e piece r few short (inl q) = step-removed m n s i e piece r 1 q
step-made m n s i e piece r few short (inr (q, room)) =
    subst (λ (k : ℕ). StepMade m n 1 s i k piece) q
    (step-inserted m n s i piece few short room (subst (λ (k : ℕ). Editable m n s i k piece) (sym q) r))
