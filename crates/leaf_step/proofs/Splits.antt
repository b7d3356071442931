-- The law of an insertion that parts its leaf: two leaves, each as good as any child, and no seam between them that parts a CR from its LF.
use mathlib.Core.Path.{◌≡◌, refl, sym, ap, subst, ◌∙◌}
use mathlib.Core.Bool.{Bool, true, false, ◌&&◌, cond}
use mathlib.Core.List.{List, [], ◌∷◌, ◌++◌}
use Prim.Native.Nat.{ℕ, ◌+◌, ◌≤◌, ◌<◌}
use native.Mathlib.Omega.{arith}
use lib.ListN.{length, take}
use Rattle.plain_note.specs.Note.{head_size}
use Rattle.plain.specs.Utf8.{valid_utf8, decode}
use Rattle.plain.specs.Count.{cr_last, lf_first}
use Rattle.plain.specs.Edit.{put_in}
use Rattle.plain.specs.Outcome.{Outcome.value, Outcome.refused, mapped}
use Rattle.plain.proofs.Outcome.{one-accepted}
use Rattle.plain.proofs.Edit.{replaced-length}
use Rattle.leaf_bytes.specs.Split.{half_split}
use Rattle.leaf_bytes.specs.Raw.{cut_at}
use Rattle.text_info.specs.Info.{info_of, raw_info}
use Rattle.text_info.specs.declared.TextInfo.{TextInfo}
use Rattle.text_info.proofs.Counts.{raw-text}
use Rattle.node_text.specs.Texts.{inserted_split}
use Rattle.node_text.proofs.Rules.{Meets}
use Rattle.node_text.proofs.Parts.{boundary-le}
use Rattle.node_text.proofs.Texts.{InsertedSplit, inserted-split-texts, inserted-split-accepted}
use Rattle.pool.specs.declared.Kid.{Kid}
use Rattle.octets.specs.Big.{four_at, bytes_of4}
use Rattle.pool.specs.Slot.{slot_start, slot_of, len_of, next_of, region_of}
use Rattle.pool.proofs.Slots.{region-length}
use Rattle.octets.proofs.Numbers.{four-length, four-in}
use Rattle.nodes.specs.Node.{is_leaf, text_of, leaf_put}
use Rattle.nodes.proofs.Heads.{leaf-says, not-outside}
use Rattle.nodes.proofs.Copied.{halve-is}
use Rattle.nodes.proofs.Put.{Same, same}
use Rattle.nodes.proofs.Accepted.{text-length}
use Rattle.tree.specs.Tree.{bytes_below, seamless, hit}
use Rattle.tree.proofs.Frame.{hit-self}
use Rattle.note_head.specs.Head.{n_of, free_of}
use Rattle.note_head.specs.Writes.{number_put}
use Rattle.note_head.proofs.Written.{Around, number-around, free-front, number_same}
use Rattle.note_head.proofs.Table.{n-tells}
use Rattle.free_slots.specs.Slots.{no_free, taken_memory, taken}
use Rattle.free_slots.proofs.Laws.{Taken, first-there, taken-value, taken_is}
use Rattle.edit_steps.specs.Became.{free, spare, Slotted, Became}
use Rattle.edit_steps.specs.Grown.{Grown, kid, MadeIs}
use Rattle.edit_steps.specs.Made.{Made, Made.split}
use Rattle.leaf_step.specs.Steps.{two_leaves, leaf_halves, leaf_split}
use Rattle.leaf_step.proofs.Leaves.{both-size, both-front, both_others, left-leaf, left-text, right-leaf, right-text}
use Rattle.leaf_step.proofs.Kept.{free-kept, slotted_kept, spare-kept, same-n, same-front, same_rest}
use Rattle.leaf_step.proofs.Told.{bytes-are, leaf-fine, two-uses, two_bytes, two-fine}

-- the first free slot that was written is read the same from all memories
free-written : (m : List ℕ) (v : ℕ) → head_size ≤ length m → free_of (number_put m 32 v) ≡ four_at (bytes_of4 v) 0
unfolding free_of
free-written m v h = four-in 32 (bytes_of4 v) m (omega (arith, four-length v)) 0 (omega (arith, four-length v))

-- ── two leaves, one in the slot of the leaf and one in the first free slot ──

module _ (m : List ℕ) (n : ℕ) (small : n < 4294967296) (w : Slotted m n) (s : ℕ) (h : slot_start s + 640 ≤ length m) (used : free m n s ≡ 0) (l : free_of m < n)
    (a b : List ℕ) (few : length a ≤ 512) (few-too : length b ≤ 512) where
  abbrev u : ℕ
  u = free_of m

  abbrev v : ℕ
  v = next_of m u

  abbrev mid : List ℕ
  mid = taken_memory m

  abbrev two : List ℕ
  two = leaf_put (leaf_put m s a) u b

  abbrev later : List ℕ
  later = number_put two 32 v

  abbrev ka : Kid
  ka = kid s (info_of (decode a))

  abbrev kb : Kid
  kb = kid u (info_of (decode b))

  there : slot_start u + 640 ≤ length m
  there = omega (arith, w.long)

  t : Taken m n u mid
  t = taken_is m n small w l

  apart : s ≡ u → ⊥
  apart q = omega (arith, ap (free m n) q, used, t.was_free)

  size : length two ≡ length m
  size = both-size m s a u b h there few few-too

  head-there : head_size ≤ length m
  head-there = omega arith

  two-there : head_size ≤ length two
  two-there = omega (arith, size)

  front : take head_size two ≡ take head_size m
  front = both-front m s a u b h there few few-too

  around : Around two later
  around = number-around two two-there 32 v (omega arith)

  others : (x : ℕ) → (x ≡ s → ⊥) → (x ≡ u → ⊥) → slot_of later x ≡ slot_of m x
  others x d e = around.slots x ∙ both_others m s a u b h there few few-too x d e

  held : (x : ℕ) → Same later two x
  held x = same later two x (around.slots x) around.size

  -- ── the free slots ──

  size-mid : length later ≡ length mid
  size-mid = around.size ∙ size ∙ sym (number-around m head-there 32 v (omega arith)).size

  n-mid : n_of later ≡ n_of mid
  n-mid = number_same two two-there n-tells 32 v refl ∙ same-n m two front ∙ sym (number_same m head-there n-tells 32 v refl)

  first-mid : free_of later ≡ free_of mid
  first-mid = free-written two v two-there ∙ sym (free-written m v head-there)

  free-alike : (x : ℕ) → 1 ≤ free mid n x → slot_of later x ≡ slot_of mid x
  free-alike x g =
      others x (λ q. omega (arith, t.leaves x, ap (free m n) q, used)) (λ q. omega (arith, t.leaves x, ap (free m n) q, t.was_free, ap (hit u) q, hit-self u))
      ∙ sym (t.same x)

  free-now : (x : ℕ) → free later n x ≡ free mid n x
  free-now = free-kept mid later n t.slotted size-mid n-mid first-mid free-alike

  -- ── the leaves ──

  module _ (valid : valid_utf8 a ≡ true) (valid-too : valid_utf8 b ≡ true) where
    leaf-a : is_leaf later s ≡ true
    leaf-a = (held s).leaf ∙ left-leaf m s a u b h there few few-too apart

    text-a : text_of later s ≡ a
    text-a = (held s).text ∙ left-text m s a u b h there few few-too apart

    leaf-b : is_leaf later u ≡ true
    leaf-b = (held u).leaf ∙ right-leaf m s a u b h there few few-too

    text-b : text_of later u ≡ b
    text-b = (held u).text ∙ right-text m s a u b h there few few-too

    bytes-a : bytes_below later 0 s ≡ a
    bytes-a = bytes-are later s a leaf-a text-a valid

    bytes-b : bytes_below later 0 u ≡ b
    bytes-b = bytes-are later u b leaf-b text-b valid-too

    became-two : Became m later n 1 (hit s) 0 (ka ∷ kb ∷ []) (a ++ b)
    became-two =
        record {
          slotted = slotted_kept mid later n t.slotted size-mid n-mid first-mid free-alike;
          conserve = λ x. omega (arith, two-uses later ka kb x, free-now x, t.leaves x);
          reads = two_bytes later ka kb a b bytes-a bytes-b;
          only = λ x z. others x (λ q. omega (arith, ap (hit s) q, hit-self s)) (λ q. omega (arith, ap (free m n) q, t.was_free));
          front = free-front two two-there v ∙ same-front m two front;
          rest = around.rest ∙ same_rest m two front;
          spent = omega (arith, spare-kept mid later n t.slotted size-mid n-mid first-mid free-alike, t.spent);
        }

    seam-two : (cr_last a && lf_first b) ≡ false → seamless (bytes_below later 0 s ∷ bytes_below later 0 u ∷ []) ≡ true
    unfolding seamless
    seam-two e = rw (bytes-a, bytes-b, e)

    pub grown-two : 128 ≤ length a → 128 ≤ length b → (cr_last a && lf_first b) ≡ false → Grown m later n 1 (hit s) 0 (ka ∷ kb ∷ []) (a ++ b)
    grown-two f g e =
        record {
          became = became-two;
          each = two-fine later ka kb (leaf-fine later s a leaf-a text-a valid f) (leaf-fine later u b leaf-b text-b valid-too g);
          seams = seam-two e;
        }

-- ── the insertion ──

module _ (m : List ℕ) (n : ℕ) (small : n < 4294967296) (w : Slotted m n) (s i : ℕ) (piece : List ℕ) (leaf : is_leaf m s ≡ true) (used : free m n s ≡ 0)
    (call : Meets (region_of m s) (len_of m s) i i piece) (over : 512 < length piece + len_of m s) (short : length piece ≤ 256) (room : 1 ≤ spare m n) where
  abbrev right : ℕ
  right = free_of m

  abbrev new : List ℕ
  new = put_in i piece (text_of m s)

  abbrev sides : List ℕ × List ℕ
  sides = cut_at new (half_split new)

  right-in : right < n
  right-in = first-there m n small w room

  right_there : slot_start right + 640 ≤ length m
  right_there = omega (arith, w.long, right-in)

  left_there : slot_start s + 640 ≤ length m
  left_there = (leaf-says m s leaf).0

  right-apart : s ≡ right → ⊥
  right-apart q = omega (arith, ap (free m n) q, used, (taken_is m n small w right-in).was_free)

  accepted-split : inserted_split (region_of m s) (len_of m s) i piece (region_of m right) ≡ value sides
  accepted-split =
      inserted-split-accepted (region_of m s) (len_of m s) i piece (region_of m right) call (omega (arith, region-length m s left_there)) (omega (arith, region-length m right right_there))
      (omega arith) (omega (arith, call.small))

  parts : InsertedSplit (region_of m s) (len_of m s) i piece (region_of m right) sides.0 sides.1
  parts = inserted-split-texts (region_of m s) (len_of m s) i piece (region_of m right) sides.0 sides.1 accepted-split

  new-length : length new ≡ length piece + len_of m s
  new-length =
      let b = boundary-le (text_of m s) i call.start in
      omega (arith, replaced-length i i piece (text_of m s) call.order b, text-length m s leaf, b)

  filled : (128 ≤ length sides.0) × (length sides.0 ≤ 512) × (128 ≤ length sides.1) × (length sides.1 ≤ 512)
  filled = parts.filled (omega (arith, new-length)) (omega (arith, new-length, call.small))

  halved : leaf_halves m s i piece right (next_of m right) ≡ value (two_leaves m s right (next_of m right) sides)
  unfolding leaf_halves
  halved = ap (mapped (two_leaves m s right (next_of m right))) (halve-is m s i piece right (len_of m s) leaf refl (not-outside m right right_there) right-apart ∙ accepted-split)

  is_free : no_free m right ≡ false
  unfolding taken
  is_free = one-accepted 2 (no_free m right) (right, taken_memory m) (right, taken_memory m) (taken-value m n small w right-in)

  abbrev told : Made
  told = split (info_of (decode sides.0)) right (info_of (decode sides.1))

  raw-told : split (raw_info sides.0) right (raw_info sides.1) ≡ told
  raw-told =
      let p = parts.parted.joined in
      ap (λ (j : TextInfo). split j right (raw_info sides.1)) (raw-text sides.0 p.left-valid)
      ∙ ap (split (info_of (decode sides.0)) right) (raw-text sides.1 p.right_valid)

  abbrev later-two : List ℕ
  later-two = (two_leaves m s right (next_of m right) sides).1

  pub split-value : leaf_split m s i piece ≡ value (told, later-two)
  unfolding leaf_split
  split-value =
      ap (λ (t : Bool). cond t (refused 2) (leaf_halves m s i piece right (next_of m right))) is_free
      ∙ halved
      ∙ ap (λ (b : Made). value (b, later-two)) raw-told

  -- THEOREM: it makes two leaves of the leaf
  pub split-made : MadeIs m later-two n 1 (hit s) 0 s new told
  split-made =
      let p = parts.parted in
      subst (Grown m later-two n 1 (hit s) 0 (kid s (info_of (decode sides.0)) ∷ kid right (info_of (decode sides.1)) ∷ [])) p.joined.text
      (grown-two m n small w s left_there used right-in sides.0 sides.1 filled.1 filled.3 p.joined.left-valid p.joined.right_valid filled.0 filled.2 p.seam)
