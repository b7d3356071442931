-- Chars before a place of the note give way to a piece inside one leaf, by one way down: it is done and told, or nothing is done, and that is told.
use mathlib.Core.Path.{◌≡◌, refl, sym, ap, ◌∙◌}
use mathlib.Core.Logic.{◌⊎◌, inl, inr, ⊎_elim}
use mathlib.Core.Bool.{Bool, true, false}
use mathlib.Core.List.{List, [], ◌++◌}
use Prim.Native.Nat.{ℕ, ◌+◌, ◌-◌, ◌≤◌, ◌<◌}
use native.Mathlib.Omega.{arith}
use lib.ListN.{length, length-drop}
use Rattle.plain.specs.Utf8.{valid_utf8, decode}
use Rattle.plain.specs.Edit.{replaced}
use Rattle.plain.specs.Outcome.{Outcome.value}
use Rattle.plain.proofs.Logic.{cut}
use Rattle.plain_note.specs.Note.{limit}
use Rattle.child_search.specs.declared.Measure.TheVariants.{CharEnds}
use Rattle.nodes.specs.Node.{text_of}
use Rattle.tree.specs.Tree.{least_root}
use Rattle.tree_search.proofs.Parted.{Ends, ends}
use Rattle.note_head.specs.Head.{root_of, height_of}
use Rattle.memory.specs.Formed.{note_bytes}
use Rattle.leaf_parts.specs.Parts.{byte_in}
use Rattle.leaf_parts.proofs.Found.{text-is}
use Rattle.edit_steps.specs.Made.{Made, Made.apart}
use Rattle.edit_steps.specs.Acts.{Act, onward}
use Rattle.edit_steps.specs.Held.{Held, Kept}
use Rattle.descent.specs.declared.Part.TheVariants.{Bytes}
use Rattle.descent.specs.Descent.{lies_inside}
use Rattle.descent.proofs.Inside.{lies-low, lies-end, lies_so, tried, inside-edited}
use Rattle.root_step.specs.Root.{rooted}
use Rattle.splices.specs.Splices.{descended, spliced, lay, told_inside, inside_at}
use Rattle.splice_laws.proofs.Spliced.{splice-held}
use Rattle.splice_laws.proofs.Texts.{byte-boundary, byte-order, take-filled, chars-edited, size-edited}
use Rattle.splice_laws.proofs.Seams.{kept-around}
use Rattle.splice_laws.proofs.Places.{Inside, by-ends}

pub record InsideHeld (m : List ℕ) (n : ℕ) (t : List ℕ) (at k : ℕ) (piece : List ℕ) : Type 0 where
  pub later : List ℕ
  pub new : List ℕ
  pub is : inside_at m at k piece ≡ (value true, later)
  pub held : Held later n new
  pub chars : decode new ≡ replaced (at - k) at (decode piece) (decode t)
  pub size : length new ≤ length t + length piece
  pub kept : Kept m later

module _ (m : List ℕ) (n : ℕ) (t : List ℕ) (note : Held m n t) (at k : ℕ) (piece : List ℕ) (valid : valid_utf8 piece ≡ true) (small : length piece ≤ 256)
    (one_way : (piece ≡ []) ⊎ (k ≡ 0)) (room : length t + length piece ≤ limit n + 1) where
  module _ (r : Ends m (height_of m) (root_of m).slot CharEnds at) (in_leaf : Inside r.before (text_of m r.leaf) at (at - r.left.chars)) where
    abbrev leaf : List ℕ
    leaf = text_of m r.leaf

    abbrev q : ℕ
    q = at - r.left.chars

    abbrev i : ℕ
    i = byte_in leaf (q - k)

    abbrev j : ℕ
    j = byte_in leaf q

    parts : t ≡ r.before ++ (leaf ++ r.after)
    parts = sym note.bytes ∙ r.parted.whole

    -- the edit of the leaf's bytes, if the chars lie inside it
    tried-by : (lies : Bool) → lies_inside leaf q k ≡ lies → inside_at m at k piece ≡ told_inside (tried m k piece (height_of m) (root_of m).slot at leaf q lies)
    tried-by lies e =
        ap (λ (x : Act Made). told_inside x)
        (inside-edited m k piece (height_of m) (root_of m).slot at r.leaf r.left r.is
        ∙ ap (λ (l : List ℕ). tried m k piece (height_of m) (root_of m).slot at l q (lies_inside l q k)) (text-is m r.leaf r.parted.is_leaf)
        ∙ ap (tried m k piece (height_of m) (root_of m).slot at leaf q) e)

    done-is : (later : List ℕ) → spliced m CharEnds at (Bytes i j) piece ≡ (value tt, later) → lay (descended m CharEnds at (Bytes i j) piece).0 ≡ true
        → told_inside (descended m CharEnds at (Bytes i j) piece) ≡ (value true, later)
    unfolding spliced
    done-is later e t =
        ap (λ (x : Act (Unit {0})). onward x (λ u l. (value (lay (descended m CharEnds at (Bytes i j) piece).0), l))) e
        ∙ ap (λ (b : Bool). (value b, later)) t

    not_is : told_inside (value apart, m) ≡ (value false, m)
    unfolding rooted
    not_is = refl

    start : k ≤ q → length (decode r.before) + (q - k) ≡ at - k
    start h = omega (arith, in_leaf.is)

    done : k < q → j < length leaf → InsideHeld m n t at k piece
    done more l =
        let order = byte-order leaf r.parted.valid-leaf (q - k) q (omega arith) in
        let s = kept-around r.before leaf r.after (record { front = r.parted.seam-before; back = r.parted.seam-after }) i j piece
        (take-filled leaf r.parted.valid-leaf (q - k) (omega arith) (omega (arith, in_leaf.within))) (omega (arith, length-drop j leaf)) in
        let bytes : length (r.before ++ (replaced i j piece leaf ++ r.after)) ≤ length t + length piece
        = omega (
          arith,
          size-edited r.before leaf r.after r.parted.valid-before r.parted.valid-leaf r.parted.valid-after piece valid (q - k) q (omega arith) in_leaf.within,
          ap length parts,
          order,
        ) in
        let way : (piece ≡ []) ⊎ (i ≡ j) = ⊎_elim (λ z. inl z) (λ z. inr (ap (byte_in leaf) (omega (arith, z)))) one_way in
        let o = splice-held m n t note CharEnds at r i j piece order (byte-boundary leaf r.parted.valid-leaf (q - k) (omega (arith, in_leaf.within)))
        (byte-boundary leaf r.parted.valid-leaf q in_leaf.within) valid small way s.front s.back (omega (arith, bytes)) in
        record {
          later = o.later;
          new = r.before ++ (replaced i j piece leaf ++ r.after);
          is = tried-by true (lies_so leaf q k more l) ∙ done-is o.later o.is o.there;
          held = o.held;
          chars =
              chars-edited r.before leaf r.after r.parted.valid-before r.parted.valid-leaf r.parted.valid-after piece valid (q - k) q (omega arith) in_leaf.within
              ∙ ap (λ (x : ℕ). replaced x (length (decode r.before) + q) (decode piece) (decode (r.before ++ (leaf ++ r.after)))) (start (omega arith))
              ∙ ap (λ (x : ℕ). replaced (at - k) x (decode piece) (decode (r.before ++ (leaf ++ r.after)))) in_leaf.is
              ∙ ap (λ (l : List ℕ). replaced (at - k) at (decode piece) (decode l)) (sym parts);
          size = bytes;
          kept = o.kept;
        }

    by_place : (inside_at m at k piece ≡ (value false, m)) ⊎ InsideHeld m n t at k piece
    by_place =
        cut k q
        (λ h. cut j (length leaf) (λ l. inr (done h l)) (λ l. inl (tried-by false (lies-end leaf q k h l) ∙ not_is)))
        (λ h. inl (tried-by false (lies-low leaf q k h) ∙ not_is))

  -- THEOREM: chars that give way to a piece inside one leaf
  pub inside-held : at ≤ length (decode t) → (inside_at m at k piece ≡ (value false, m)) ⊎ InsideHeld m n t at k piece
  inside-held h =
      let here : at ≤ length (decode (note_bytes m)) = omega (arith, ap (λ (l : List ℕ). length (decode l)) note.bytes) in
      let r = ends m CharEnds (height_of m) (root_of m).slot at (least_root (height_of m)) (omega arith) note.good here in
      by_place r (by-ends m (height_of m) (root_of m).slot at r.leaf r.left r.before r.after r.parted here).0
