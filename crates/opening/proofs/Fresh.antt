-- A fresh memory: a new head, an empty leaf in slot 0, and each slot behind it free and naming the next. It is well formed, and its note is the
-- one that opening makes.
use mathlib.Core.Path.{◌≡◌, refl, ap, ◌∙◌}
use mathlib.Core.Bool.{Bool, true, ◌&&◌, ◌||◌}
use mathlib.Core.List.{List, []}
use Prim.Native.Nat.{ℕ, zero, suc, ◌+◌, ◌≤◌, ◌<◌}
use native.Mathlib.Omega.{arith}
use lib.Dec.{eqb, leb}
use lib.ListN.{length, take}
use borrow.Author.Tests.{lt-ltb, le-ltb, eq-eqb, ne_eqb, le-leb}
use Rattle.plain.specs.Chars.{encode}
use Rattle.plain.specs.Count.{count_if, breaks}
use Rattle.plain.specs.Utf8.{valid_utf8, decode}
use Rattle.plain.proofs.Logic.{cut, or_left}
use Rattle.plain_note.specs.Note.{limit, opened, head_size}
use Rattle.pool.specs.declared.Kid.{Kid}
use Rattle.pool.specs.Slot.{slot_start, kind_of, len_of, next_of, region_of, no_kid}
use Rattle.nodes.specs.Node.{text_of}
use Rattle.nodes.proofs.Heads.{leaf-is}
use Rattle.tree.specs.Tree.{bytes_below, hit, uses, sound, least_root, told_right, tells, sum_of}
use Rattle.note_head.specs.Head.{n_of, root_of, height_of, free_of, live_at, place_at}
use Rattle.memory.specs.Formed.{frees, chained, note_bytes, in_tree, in_free, tree_right, slots_right, size_right, marks_right, note_in}
use Rattle.memory.proofs.Below.{below_all}
use Rattle.opening.specs.Opened.{new_head}
use Rattle.opening.proofs.Head.{n-is, edit-is, root_is, height-is, free-is, live-is, marks-free}

pub record Fresh (m : List ℕ) (n : ℕ) : Type 0 where
  pub some : 1 ≤ n
  pub few : n < 4294967296
  pub long : slot_start n ≤ length m
  pub head : take head_size m ≡ new_head n
  pub leaf : (kind_of m 0 ≡ 1) × (len_of m 0 ≡ 0)
  pub free : (s : ℕ) → 1 ≤ s → s < n → (kind_of m s ≡ 0) × (next_of m s ≡ s + 1)

pub both : (a b : Bool) → a ≡ true → b ≡ true → (a && b) ≡ true
both a b p q = ap (λ (t : Bool). t && b) p ∙ q

-- ── the chain of free slots ──

module _ (m : List ℕ) (n : ℕ) (f : (s : ℕ) → 1 ≤ s → s < n → (kind_of m s ≡ 0) × (next_of m s ≡ s + 1)) where
  chain-is : (k s : ℕ) → 1 ≤ s → s ≤ n → n ≤ s + k → chained m n k s ≡ true
  unfolding chained
  chain-is zero s a b c = eq-eqb s n (omega arith)
  chain-is (suc k) s a b c =
      cut s n (λ l. rw (ne_eqb s n (λ e. omega arith), lt-ltb s n l, (f s a l).0, (f s a l).1) (chain-is k (s + 1) (omega arith) (omega arith) (omega arith)))
      (λ l. or_left (eqb s n) _ (eq-eqb s n (omega arith)))

  -- how often a slot is in it: not before its first one, and once from there on
  frees-not : (k s x : ℕ) → 1 ≤ s → x < s → frees m n k s x ≡ 0
  unfolding frees
  frees-not zero s x a b = refl
  frees-not (suc k) s x a b =
      cut s n (λ l. rw (lt-ltb s n l, (f s a l).1, ne_eqb s x (λ e. omega arith)) (omega (arith, frees-not k (s + 1) x (omega arith) (omega arith))))
      (λ l. rw (le-ltb s n l))

  frees-once : (k s x : ℕ) → 1 ≤ s → s ≤ x → x < n → n ≤ s + k → frees m n k s x ≡ 1
  unfolding frees
  frees-once zero s x a b c d = absurd (omega arith)
  frees-once (suc k) s x a b c d =
      rw (lt-ltb s n (omega arith), (f s a (omega arith)).1)
      (cut s x (λ l. rw (ne_eqb s x (λ e. omega arith)) (omega (arith, frees-once k (s + 1) x (omega arith) (omega arith) c (omega arith))))
      (λ l. rw (eq-eqb s x (omega arith), frees-not k (s + 1) x (omega arith) (omega arith))))

-- ── an empty text ──

empty-valid : (bs : List ℕ) → bs ≡ [] → valid_utf8 bs ≡ true
unfolding valid_utf8
empty-valid bs e = ap valid_utf8 e

empty-told : (bs : List ℕ) → bs ≡ [] → tells no_kid.info (sum_of (decode bs)) ≡ true
unfolding decode encode count_if breaks
empty-told bs e = ap (λ (b : List ℕ). tells no_kid.info (sum_of (decode b))) e

empty-decoded : (bs : List ℕ) → bs ≡ [] → decode bs ≡ []
unfolding decode
empty-decoded bs e = ap decode e

-- ── the parts of `well_formed` ──

module _ (m : List ℕ) (n : ℕ) (w : Fresh m n) where
  h-is : height_of m ≡ 0
  h-is = height-is m n w.head

  r-is : root_of m ≡ no_kid
  r-is = root_is m n w.head

  n-of : n_of m ≡ n
  n-of = n-is m n w.head w.few

  none_below : bytes_below m 0 0 ≡ []
  unfolding bytes_below
  none_below = ap (λ (k : ℕ). take k (region_of m 0)) w.leaf.1

  no_bytes : note_bytes m ≡ []
  no_bytes = ap (λ (h : ℕ). bytes_below m h (root_of m).slot) h-is ∙ ap (λ (k : Kid). bytes_below m 0 k.slot) r-is ∙ none_below

  sound-it : sound m (least_root 0) 0 0 ≡ true
  unfolding sound least_root bytes_below
  sound-it =
      rw (
        leaf-is m 0 (omega (arith, w.long, w.some)) w.leaf.0 (omega (arith, w.leaf.1)),
        le-leb 0 (len_of m 0) (omega arith),
        empty-valid (text_of m 0) none_below,
      )

  told-it : told_right m 0 no_kid ≡ true
  unfolding told_right
  told-it = empty-told (bytes_below m 0 0) none_below

  pub tree-fresh : tree_right m ≡ true
  unfolding tree_right
  tree-fresh =
      ap (λ (h : ℕ). sound m (least_root h) h (root_of m).slot && told_right m h (root_of m)) h-is
      ∙ ap (λ (k : Kid). sound m (least_root 0) 0 k.slot && told_right m 0 k) r-is
      ∙ rw (sound-it, told-it)

  pub size-fresh : size_right m ≡ true
  unfolding size_right
  size-fresh = ap (λ (b : List ℕ). leb (length b) (limit (n_of m))) no_bytes ∙ le-leb 0 (limit (n_of m)) (omega arith)

  no-mark : (k : ℕ) (t : Bool) → k < 256 → (eqb (live_at m k) 0 || t) ≡ true
  no-mark k t h = or_left (eqb (live_at m k) 0) t (eq-eqb (live_at m k) 0 (live-is m n w.head k h))

  pub marks-fresh : marks_right m ≡ true
  unfolding marks_right
  marks-fresh =
      below_all (λ k. eqb (live_at m k) 0 || (eqb (live_at m k) 1 && leb (place_at m k) (length (decode (note_bytes m))))) 256
      (λ k h. no-mark k (eqb (live_at m k) 1 && leb (place_at m k) (length (decode (note_bytes m)))) h)

  -- the root's slot is in the tree and not free, each other one is free and not in the tree
  chain-fresh : chained m (n_of m) (n_of m) (free_of m) ≡ true
  chain-fresh = rw (n-of, free-is m n w.head) (chain-is m n w.free n 1 (omega arith) w.some (omega arith))

  tree-has : (x : ℕ) → in_tree m x ≡ hit 0 x
  unfolding uses
  tree-has x = ap (λ (h : ℕ). uses m h (root_of m).slot x) h-is ∙ ap (λ (k : Kid). uses m 0 k.slot x) r-is

  free-has : (x : ℕ) → in_free m x ≡ frees m n n 1 x
  free-has x = rw (n-of, free-is m n w.head)

  in_one : (x : ℕ) → x < n → hit 0 x + frees m n n 1 x ≡ 1
  unfolding hit
  in_one x h =
      cut 0 x (λ l. rw (ne_eqb 0 x (λ e. omega arith)) (omega (arith, frees-once m n w.free n 1 x (omega arith) (omega arith) h (omega arith))))
      (λ l. rw (eq-eqb 0 x (omega arith)) (omega (arith, frees-not m n w.free n 1 x (omega arith) (omega arith))))

  once : (x : ℕ) → x < n_of m → eqb (in_tree m x + in_free m x) 1 ≡ true
  once x h = eq-eqb (in_tree m x + in_free m x) 1 (omega (arith, tree-has x, free-has x, in_one x (omega (arith, n-of))))

  pub slots-fresh : slots_right m ≡ true
  unfolding slots_right
  slots-fresh = both (chained m (n_of m) (n_of m) (free_of m)) _ chain-fresh (below_all (λ x. eqb (in_tree m x + in_free m x) 1) (n_of m) once)

  -- THEOREM: its note is the one that opening makes
  pub note-fresh : note_in m ≡ opened n
  note-fresh = rw (empty-decoded (note_bytes m) no_bytes, marks-free m n w.head, edit-is m n w.head, n-of)
