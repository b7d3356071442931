-- From the leaf to the note: an index that a search found to lie in a leaf, turned there into another count.
use Rattle.answer.specs.Answers.{Answer, outcome}
use Rattle.std.specs.Prelude.{Ok, Err}
use mathlib.Core.Path.{◌≡◌, refl, sym, ap, ◌∙◌}
use mathlib.Core.Bool.{Bool, true, false, ◌&&◌}
use mathlib.Core.List.{List, [], ◌++◌}
use Prim.Native.Nat.{ℕ, ◌+◌, ◌-◌, ◌≤◌}
use native.Mathlib.Omega.{arith}
use Rattle.plain.specs.Utf8.{valid_utf8, decode}
use Rattle.plain.specs.Count.{bit, breaks, cr_last, lf_first}
use Rattle.plain.specs.Place.{count_at, count_of}
use Rattle.plain.specs.Outcome.{Outcome.value}
use Rattle.plain.proofs.Logic.{and_left, and_right}
use Rattle.plain.proofs.Count.{breaks-append}
use Rattle.plain.proofs.Text.{units-pairs}
use Rattle.plain.proofs.Utf8.{valid-append}
use Rattle.plain_note.specs.Note.{place_by, most_by}
use Rattle.plain_note.proofs.Places.{stops, count-parted, place-parted, place_inside}
use Rattle.answer.specs.declared.Refusal.{Refusal}
use Rattle.text_info.specs.Info.{zeros}
use Rattle.text_info.specs.declared.TextSum.{TextSum}
use Rattle.pool.specs.declared.Kid.{Kid}
use Rattle.child_search.specs.declared.Measure as Search
use Rattle.child_search.specs.Sought.{stops_at, most_of, plus_info}
use Rattle.nodes.specs.Node.{text_of}
use Rattle.tree.specs.Tree.{bytes_below, sum_of, sound, least_root, told_right, plus_sum}
use Rattle.tree.proofs.Counts.{breaks-valid}
use Rattle.tree_search.specs.Search.{count_in, leaf_at, PartedAt}
use Rattle.tree_search.proofs.Nested.{told-by}
use Rattle.tree_search.proofs.Parted.{Ends, ends, chars-parted}
use Rattle.note_head.specs.Head.{root_of, height_of}
use Rattle.memory.specs.Formed.{tree_right, note_bytes}
use Rattle.note_counts.specs.declared.Count.{Count}
use Rattle.note_counts.specs.declared.Count.TheVariants.{Bytes, Chars, Units, Lines}
use Rattle.note_counts.specs.Counts.{measure, by_of, most_in}

-- ── the counts of a text, by each of the four ──

counted : (c : Count) (cs : List ℕ) → count_in (by_of c) (sum_of cs) ≡ count_of (measure c) cs
unfolding count_of
counted Bytes cs = refl
counted Chars cs = refl
counted Units cs = sym (units-pairs cs)
counted Lines cs = refl

stops_at_lem : (c : Count) (i : ℕ) (cs : List ℕ) → stops_at (by_of c) i (sum_of cs) ≡ stops (measure c) i (count_of (measure c) cs)
unfolding count_of stops
stops_at_lem Bytes i cs = refl
stops_at_lem Chars i cs = refl
stops_at_lem Units i cs = ap (stops (measure Units) i) (sym (units-pairs cs))
stops_at_lem Lines i cs = refl

most-of : (c : Count) (cs : List ℕ) → most_of (by_of c) (sum_of cs) ≡ most_by (measure c) cs
unfolding most_by
most-of Bytes cs = refl
most-of Chars cs = refl
most-of Units cs = sym (units-pairs cs)
most-of Lines cs = refl

-- a seam of bytes that parts no CR from its LF is such a seam of chars
no-bit : (t : Bool) → bit t ≡ 0 → t ≡ false
no-bit true e = absurd (omega arith)
no-bit false e = refl

chars-seam : (a b : List ℕ) → valid_utf8 a ≡ true → valid_utf8 b ≡ true → (cr_last a && lf_first b) ≡ false → (cr_last (decode a) && lf_first (decode b)) ≡ false
chars-seam a b v w e =
    let j = valid-append a b v w in
    no-bit _
    (omega (
      arith,
      breaks-append a b,
      ap bit e,
      breaks-append (decode a) (decode b),
      ap breaks (sym j.1) ∙ breaks-valid (a ++ b) j.0,
      breaks-valid a v,
      breaks-valid b w,
    ))

-- ── a leaf that an index lies in ──

module _ (m : List ℕ) (h s : ℕ) (from : Count) (i leaf : ℕ) (left : TextSum) (before after : List ℕ) (p : PartedAt m h s (by_of from) i leaf left before after) where
  abbrev text : List ℕ
  text = text_of m leaf

  behind : (valid_utf8 (text ++ after) ≡ true) × (decode (text ++ after) ≡ decode text ++ decode after)
  behind = valid-append text after p.valid-leaf p.valid-after

  seam : (cr_last (decode before) && lf_first (decode text ++ decode after)) ≡ false
  seam =
      ap (λ (l : List ℕ). cr_last (decode before) && lf_first l) (sym behind.1)
      ∙ chars-seam before (text ++ after) p.valid-before behind.0 p.seam-before

  end : (cr_last (decode text) && lf_first (decode after)) ≡ false
  end = chars-seam text after p.valid-leaf p.valid-after p.seam-after

  left-counts : (c : Count) → count_in (by_of c) left ≡ count_of (measure c) (decode before)
  left-counts c = ap (count_in (by_of c)) p.counts ∙ counted c (decode before)

  empty : (a : List ℕ) → a ≡ [] → decode a ≡ []
  unfolding decode
  empty a e = ap decode e

  not-before : (decode before ≡ [] → ⊥) → stops (measure from) i (count_of (measure from) (decode before)) ≡ false
  not-before n = sym (stops_at_lem from i (decode before)) ∙ ap (stops_at (by_of from) i) (sym p.counts) ∙ p.passed (λ e. n (empty before e))

  by-the-end : (decode after ≡ [] → ⊥) → stops (measure from) i (count_of (measure from) (decode before ++ decode text)) ≡ true
  by-the-end n =
      ap (λ (l : List ℕ). stops (measure from) i (count_of (measure from) l)) (sym (valid-append before text p.valid-before p.valid-leaf).1)
      ∙ sym (stops_at_lem from i (decode (before ++ text))) ∙ p.stopped (λ e. n (empty after e))

  -- THEOREM: the count of the whole text is that on the left and that in the leaf
  pub whole-turned : (to : Count) → i ≤ most_by (measure from) (decode (bytes_below m h s))
      → count_at (measure to) (decode (bytes_below m h s)) (place_by (measure from) (decode (bytes_below m h s)) i)
      ≡ count_in (by_of to) left + count_at (measure to) (decode text) (place_by (measure from) (decode text) (i - count_in (by_of from) left))
  whole-turned to room =
      let b = decode before in
      let l = decode text in
      let a = decode after in
      let e : decode (bytes_below m h s) ≡ b ++ (l ++ a) = chars-parted m (by_of from) h s i leaf left before after p in
      let k : ℕ = i - count_of (measure from) b in
      let z : k ≡ i - count_in (by_of from) left = omega (arith, left-counts from) in
      let inside = place_inside b l a seam end i (measure from) (rw e at room) by-the-end in
      rw e
      (ap (count_at (measure to) (b ++ (l ++ a))) (place-parted b l a seam end i (measure from) not-before by-the-end)
      ∙ count-parted b l a seam end (measure to) (place_by (measure from) l k) inside
      ∙ omega (arith, left-counts to, ap (λ (n : ℕ). count_at (measure to) l (place_by (measure from) l n)) z))

  -- as the code adds it up
  pub turned-sum : (to : Count) → i ≤ most_by (measure from) (decode (bytes_below m h s)) → (x y z : ℕ) → x ≡ count_in (by_of to) left → y ≡ count_in (by_of from) left
      → z ≡ count_at (measure to) (decode text) (place_by (measure from) (decode text) (i - y))
      → x + z ≡ count_at (measure to) (decode (bytes_below m h s)) (place_by (measure from) (decode (bytes_below m h s)) i)
  turned-sum to room x y z e f g =
      omega (arith, whole-turned to room, e, g, ap (λ (n : ℕ). count_at (measure to) (decode text) (place_by (measure from) (decode text) (i - n))) f)

-- ── the tree of a well-formed memory ──

module _ (m : List ℕ) (right : tree_right m ≡ true) where
  root-sound : sound m (least_root (height_of m)) (height_of m) (root_of m).slot ≡ true
  unfolding tree_right
  root-sound = and_left _ _ right

  root_told : told_right m (height_of m) (root_of m) ≡ true
  unfolding tree_right
  root_told = and_right (sound m (least_root (height_of m)) (height_of m) (root_of m).slot) _ right

  told : plus_info zeros (root_of m).info ≡ plus_sum zeros (sum_of (decode (note_bytes m)))
  told = told-by m (height_of m) (root_of m) root_told zeros

  most-told : (by : Count) → most_in by (root_of m).info ≡ most_by (measure by) (decode (note_bytes m))
  unfolding most_by
  most-told Bytes = omega (arith, ap (λ (s : TextSum). s.bytes) told)
  most-told Chars = omega (arith, ap (λ (s : TextSum). s.chars) told)
  most-told Units = omega (arith, ap (λ (s : TextSum). s.chars) told, ap (λ (s : TextSum). s.utf16_surrogates) told, units-pairs (decode (note_bytes m)))
  most-told Lines = omega (arith, ap (λ (s : TextSum). s.line_breaks) told)

  -- the highest index, from the root's counts
  pub most-is : (by : Count) (k : Kid) (n : ℕ) → k ≡ root_of m → n ≡ most_in by k.info → n ≡ most_by (measure by) (decode (note_bytes m))
  most-is by k n e f = f ∙ ap (λ (x : Kid). most_in by x.info) e ∙ most-told by

  module _ (from : Count) (i : ℕ) (room : i ≤ most_by (measure from) (decode (note_bytes m))) where
    -- where the index lies
    pub record Lies (leaf : ℕ) (left : TextSum) : Type 0 where
      pub before : List ℕ
      pub after : List ℕ
      pub parted : PartedAt m (height_of m) (root_of m).slot (by_of from) i leaf left before after

    found : Ends m (height_of m) (root_of m).slot (by_of from) i
    found = ends m (by_of from) (height_of m) (root_of m).slot i (least_root (height_of m)) (omega arith) root-sound (omega (arith, most-of from (decode (note_bytes m))))

    module _ (h s : ℕ) (by : Search.Measure) (height : h ≡ height_of m) (slot : s ≡ (root_of m).slot) (way : by ≡ by_of from) (r : Answer (ℕ × TextSum)) (promise : outcome r ≡ leaf_at m h s by i) where
      spot_is : outcome r ≡ value (found.leaf, found.left)
      spot_is = promise ∙ rw (height, slot, way) found.is

      pub never : (q : Refusal) → r ≡ Err q → ⊥
      never q e = let g = sym (ap outcome e) ∙ spot_is in let z : ◌≡◌ {A = ℕ} 0 1 = cc in omega arith

      pub lies : (leaf : ℕ) (left : TextSum) → r ≡ Ok (leaf, left) → Lies leaf left
      lies leaf left e =
          let g = sym (ap outcome e) ∙ spot_is in
          let z : ◌≡◌ {A = ℕ × TextSum} (leaf, left) (found.leaf, found.left) = cc in
          let x : leaf ≡ found.leaf = ap (λ (f : ℕ × TextSum). f.0) z in
          let y : left ≡ found.left = ap (λ (f : ℕ × TextSum). f.1) z in
          record { before = found.before; after = found.after; parted = rw (x, y) found.parted }
