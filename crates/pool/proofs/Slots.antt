-- The laws of slots: what a write inside one of them changes, and that nothing else does.
use mathlib.Core.Path.{◌≡◌, refl, sym, ap, ◌∙◌}
use mathlib.Core.List.{List, [], ◌∷◌, ◌++◌}
use Prim.Native.Nat.{ℕ, ◌+◌, ◌-◌, ◌*◌, ◌≤◌, ◌<◌}
use native.Mathlib.Omega.{arith}
use lib.ListN.{length, take, drop, get_or, set, length-drop}
use lib.Seq.{length-take-le, get_or-take, get_or-drop, take-take, drop-drop}
use borrow.Rule.Slice.PartMut.{put_mid}
use Rattle.plain_note.specs.Note.{head_size}
use Rattle.plain.proofs.Logic.{cut}
use Rattle.octets.specs.Over.{overlaid}
use Rattle.octets.proofs.Over.{overlaid-length, part-is, over-front, over-rest, part-before, part-behind, part-over, part-is-laid, over-join, sets_over, put-over}
use Rattle.pool.specs.declared.Kid.{Kid}
use Rattle.octets.specs.Big.{two_at, four_at, bytes_of2, bytes_of4}
use Rattle.pool.specs.Slot.{slot_start, kid_start, slot_of, kind_of, len_of, next_of, head_bytes, region_of, kid_at, kid_bytes, entries, no_kid, Fits, head_put, kid_put, region_put}
use Rattle.octets.proofs.Numbers.{two-part, four-part, two_in, four-in, four-whole}
use Rattle.pool.proofs.Kids.{kid-length, kid-part, entry_at, entry-put}

-- ── where things lie ──

module _ (m : List ℕ) (s : ℕ) where
  pub slot-length : slot_start s + 640 ≤ length m → length (slot_of m s) ≡ 640
  unfolding slot_of
  slot-length h = length-take-le 640 (drop (slot_start s) m) (omega (arith, length-drop (slot_start s) m))

  pub region-length : slot_start s + 640 ≤ length m → length (region_of m s) ≡ 512
  unfolding region_of
  region-length h = length-take-le 512 (drop 128 (slot_of m s)) (omega (arith, length-drop 128 (slot_of m s), slot-length h))

  pub kind-lies : kind_of m s ≡ get_or m (slot_start s) 0
  unfolding slot_of
  kind-lies =
      let z : slot_start s + 0 ≡ slot_start s = omega arith in
      get_or-take 640 (drop (slot_start s) m) 0 0 (omega arith) ∙ get_or-drop (slot_start s) m 0 0 ∙ ap (λ (n : ℕ). get_or m n 0) z

  pub len-lies : len_of m s ≡ two_at m (slot_start s + 2)
  unfolding slot_of
  len-lies = two-part m (slot_start s) 640 2 (omega arith)

  pub next-lies : next_of m s ≡ four_at m (slot_start s + 4)
  unfolding slot_of
  next-lies = four-part m (slot_start s) 640 4 (omega arith)

  -- THEOREM: the entry i of a slot's list is the child that lies at its place
  pub kid-lies : (i : ℕ) → i < 16 → get_or (entries (region_of m s)) i no_kid ≡ kid_at m (kid_start s i)
  unfolding region_of slot_of
  kid-lies i h =
      entry_at (region_of m s) i h
      ∙ kid-part (slot_of m s) 128 512 (20 * i) (omega arith)
      ∙ kid-part m (slot_start s) 640 (128 + 20 * i) (omega arith)

  pub region-lies : region_of m s ≡ take 512 (drop (slot_start s + 128) m)
  unfolding region_of slot_of
  region-lies =
      ap (take 512) (part-is 128 640 (drop (slot_start s) m))
      ∙ take-take 512 512 (drop 128 (drop (slot_start s) m)) (omega arith)
      ∙ ap (take 512) (drop-drop 128 (slot_start s) m)

  -- the region lent as `&m[a..end]` or `&mut m[a..end]`
  pub region-lent : (a end : ℕ) → a ≡ slot_start s + 128 → end ≡ a + 512 → take (end - a) (drop a m) ≡ region_of m s
  region-lent a end e f =
      let z : end - a ≡ 512 = omega arith in
      ap (λ (n : ℕ). take n (drop a m)) z ∙ ap (λ (n : ℕ). take 512 (drop n m)) e ∙ sym region-lies

-- where two slots begin alike, their heads are the same
pub head-same : (m l : List ℕ) (s : ℕ) → take 128 (slot_of m s) ≡ take 128 (slot_of l s) → (kind_of m s ≡ kind_of l s) × (len_of m s ≡ len_of l s) × (next_of m s ≡ next_of l s)
head-same m l s e =
    let kind : (b : List ℕ) → get_or (take 128 b) 0 0 ≡ get_or b 0 0 = λ b. get_or-take 128 b 0 0 (omega arith) in
    let len : (b : List ℕ) → two_at (take 128 b) 2 ≡ two_at b 2 = λ b. two-part b 0 128 2 (omega arith) in
    let next : (b : List ℕ) → four_at (take 128 b) 4 ≡ four_at b 4 = λ b. four-part b 0 128 4 (omega arith) in (
      sym (kind (slot_of m s)) ∙ ap (λ (b : List ℕ). get_or b 0 0) e ∙ kind (slot_of l s),
      sym (len (slot_of m s)) ∙ ap (λ (b : List ℕ). two_at b 2) e ∙ len (slot_of l s),
      sym (next (slot_of m s)) ∙ ap (λ (b : List ℕ). four_at b 4) e ∙ next (slot_of l s),
    )

-- ── bytes laid over others inside a slot ──

module _ (m : List ℕ) (s j : ℕ) (x : List ℕ) (h : slot_start s + 640 ≤ length m) (k : j + length x ≤ 640) where
  -- THEOREM: every other slot stays
  pub others-stay : (t : ℕ) → (t ≡ s → ⊥) → slot_of (overlaid (slot_start s + j) x m) t ≡ slot_of m t
  unfolding slot_of
  others-stay t n =
      cut t s (λ l. part-before (slot_start s + j) x m (omega arith) (slot_start t) 640 (omega arith))
      (λ l. cut s t (λ g. part-behind (slot_start s + j) x m (omega arith) (slot_start t) 640 (omega arith)) (λ g. absurd (n (omega arith))))

  -- and so does what lies before the slots, and behind this one
  pub front-stays : take head_size (overlaid (slot_start s + j) x m) ≡ take head_size m
  front-stays = over-front (slot_start s + j) x m (omega arith) head_size (omega arith)

  pub behind-stays : drop (slot_start s + 640) (overlaid (slot_start s + j) x m) ≡ drop (slot_start s + 640) m
  behind-stays = over-rest (slot_start s + j) x m (omega arith) (slot_start s + 640) (omega arith)

  pub length-stays : length (overlaid (slot_start s + j) x m) ≡ length m
  length-stays = overlaid-length (slot_start s + j) x m (omega arith)

  -- in the slot itself they lie over its bytes
  pub slot_is : slot_of (overlaid (slot_start s + j) x m) s ≡ overlaid j x (slot_of m s)
  unfolding slot_of
  slot_is = part-over (slot_start s) j 640 x m (omega arith) k

-- ── a head ──

module _ (kind len next : ℕ) where
  pub head-length : length (head_bytes kind len next) ≡ 8
  unfolding head_bytes bytes_of4 bytes_of2
  head-length = refl

  len_read : len < 65536 → two_at (head_bytes kind len next) 2 ≡ len
  unfolding two_at head_bytes bytes_of4 bytes_of2
  len_read h = omega arith

  next-read : next < 4294967296 → four_at (head_bytes kind len next) 4 ≡ next
  unfolding four_at two_at head_bytes bytes_of4 bytes_of2
  next-read h = four-whole next h

-- its bytes, written one behind the other
pub head-laid : (m m₁ m₂ : List ℕ) (p kind len next : ℕ) → p + 8 ≤ length m
    → m₁ ≡ overlaid (p + 2) (bytes_of2 len) (set (set m p kind) (p + 1) 0) → m₂ ≡ overlaid (p + 4) (bytes_of4 next) m₁ → m₂ ≡ overlaid p (head_bytes kind len next) m
unfolding head_bytes bytes_of4 bytes_of2
head-laid m m₁ m₂ p kind len next h e f =
    let x = kind ∷ 0 ∷ [] in
    f
    ∙ ap (overlaid (p + 4) (bytes_of4 next))
    (e ∙ ap (overlaid (p + 2) (bytes_of2 len)) (sets_over m p kind 0 (omega arith)) ∙ over-join p (p + 2) x (bytes_of2 len) m refl (omega arith))
    ∙ over-join p (p + 4) (x ++ bytes_of2 len) (bytes_of4 next) m refl (omega arith)

module _ (m : List ℕ) (s kind len next : ℕ) (h : slot_start s + 640 ≤ length m) where
  at-start : head_put m s kind len next ≡ overlaid (slot_start s + 0) (head_bytes kind len next) m
  at-start = let z : slot_start s ≡ slot_start s + 0 = omega arith in ap (λ (n : ℕ). overlaid n (head_bytes kind len next) m) z

  short : 0 + length (head_bytes kind len next) ≤ 640
  short = omega (arith, head-length kind len next)

  pub head-slot : slot_of (head_put m s kind len next) s ≡ overlaid 0 (head_bytes kind len next) (slot_of m s)
  head-slot = ap (λ (l : List ℕ). slot_of l s) at-start ∙ slot_is m s 0 (head_bytes kind len next) h short

  inside : 0 + length (head_bytes kind len next) ≤ length (slot_of m s)
  inside = omega (arith, head-length kind len next, slot-length m s h)

  -- THEOREM: a head that was written is read
  pub head-kind : kind_of (head_put m s kind len next) s ≡ kind
  unfolding head_bytes
  head-kind = ap (λ (b : List ℕ). get_or b 0 0) head-slot

  pub head-len : len < 65536 → len_of (head_put m s kind len next) s ≡ len
  head-len k = ap (λ (b : List ℕ). two_at b 2) head-slot ∙ two_in 0 (head_bytes kind len next) (slot_of m s) inside 2 (omega (arith, head-length kind len next)) ∙ len_read kind len next k

  pub head-next : next < 4294967296 → next_of (head_put m s kind len next) s ≡ next
  head-next k = ap (λ (b : List ℕ). four_at b 4) head-slot ∙ four-in 0 (head_bytes kind len next) (slot_of m s) inside 4 (omega (arith, head-length kind len next)) ∙ next-read kind len next k

  -- THEOREM: the slot's other bytes stay, its region among them, and so does every other slot
  pub head-rest : drop 8 (slot_of (head_put m s kind len next) s) ≡ drop 8 (slot_of m s)
  head-rest = ap (drop 8) head-slot ∙ over-rest 0 (head_bytes kind len next) (slot_of m s) inside 8 (omega (arith, head-length kind len next))

  pub head-region : region_of (head_put m s kind len next) s ≡ region_of m s
  unfolding region_of
  head-region = ap (λ (b : List ℕ). take 512 (drop 128 b)) head-slot ∙ part-behind 0 (head_bytes kind len next) (slot_of m s) inside 128 512 (omega (arith, head-length kind len next))

  pub head-others : (t : ℕ) → (t ≡ s → ⊥) → slot_of (head_put m s kind len next) t ≡ slot_of m t
  head-others t n = ap (λ (l : List ℕ). slot_of l t) at-start ∙ others-stay m s 0 (head_bytes kind len next) h short t n

  pub head-front : take head_size (head_put m s kind len next) ≡ take head_size m
  head-front = ap (take head_size) at-start ∙ front-stays m s 0 (head_bytes kind len next) h short

  pub head-size : length (head_put m s kind len next) ≡ length m
  head-size = ap length at-start ∙ length-stays m s 0 (head_bytes kind len next) h short

  pub head-behind : drop (slot_start s + 640) (head_put m s kind len next) ≡ drop (slot_start s + 640) m
  head-behind = ap (drop (slot_start s + 640)) at-start ∙ behind-stays m s 0 (head_bytes kind len next) h short

-- ── a child ──

module _ (m : List ℕ) (s i : ℕ) (k : Kid) (h : slot_start s + 640 ≤ length m) (l : i < 16) where
  kid-short : 128 + 20 * i + length (kid_bytes k) ≤ 640
  kid-short = omega (arith, kid-length k)

  pub kid-slot : slot_of (kid_put m s i k) s ≡ overlaid (128 + 20 * i) (kid_bytes k) (slot_of m s)
  kid-slot = slot_is m s (128 + 20 * i) (kid_bytes k) h kid-short

  -- THEOREM: an entry that was written is read, and the others stay
  pub kid-entries : Fits k → entries (region_of (kid_put m s i k) s) ≡ set (entries (region_of m s)) i k
  unfolding region_of
  kid-entries f =
      ap (λ (b : List ℕ). entries (take 512 (drop 128 b))) kid-slot
      ∙ ap entries (part-over 128 (20 * i) 512 (kid_bytes k) (slot_of m s) (omega (arith, slot-length m s h)) (omega (arith, kid-length k)))
      ∙ entry-put (region_of m s) i k f l (omega (arith, region-length m s h))

  -- THEOREM: the slot's head stays, and what lies behind the entries, and every other slot
  pub kid-head : take 128 (slot_of (kid_put m s i k) s) ≡ take 128 (slot_of m s)
  kid-head = ap (take 128) kid-slot ∙ over-front (128 + 20 * i) (kid_bytes k) (slot_of m s) (omega (arith, slot-length m s h, kid-length k)) 128 (omega arith)

  pub kid-rest : drop 448 (slot_of (kid_put m s i k) s) ≡ drop 448 (slot_of m s)
  kid-rest = ap (drop 448) kid-slot ∙ over-rest (128 + 20 * i) (kid_bytes k) (slot_of m s) (omega (arith, slot-length m s h, kid-length k)) 448 (omega (arith, kid-length k))

  pub kid-others : (t : ℕ) → (t ≡ s → ⊥) → slot_of (kid_put m s i k) t ≡ slot_of m t
  kid-others t n = others-stay m s (128 + 20 * i) (kid_bytes k) h kid-short t n

  pub kid-front : take head_size (kid_put m s i k) ≡ take head_size m
  kid-front = front-stays m s (128 + 20 * i) (kid_bytes k) h kid-short

  pub kid-size : length (kid_put m s i k) ≡ length m
  kid-size = length-stays m s (128 + 20 * i) (kid_bytes k) h kid-short

  pub kid-behind : drop (slot_start s + 640) (kid_put m s i k) ≡ drop (slot_start s + 640) m
  kid-behind = behind-stays m s (128 + 20 * i) (kid_bytes k) h kid-short

-- ── a region as a whole ──

module _ (m : List ℕ) (s : ℕ) (y : List ℕ) (h : slot_start s + 640 ≤ length m) (e : length y ≡ 512) where
  pub region-slot : slot_of (region_put m s y) s ≡ overlaid 128 y (slot_of m s)
  region-slot = slot_is m s 128 y h (omega arith)

  -- THEOREM: the region is the new one; the slot's head stays, and every other slot
  pub region-is : region_of (region_put m s y) s ≡ y
  unfolding region_of
  region-is = ap (λ (b : List ℕ). take 512 (drop 128 b)) region-slot ∙ part-is-laid 128 512 y (slot_of m s) (omega (arith, slot-length m s h)) e

  pub region-head : take 128 (slot_of (region_put m s y) s) ≡ take 128 (slot_of m s)
  region-head = ap (take 128) region-slot ∙ over-front 128 y (slot_of m s) (omega (arith, slot-length m s h)) 128 (omega arith)

  pub region-others : (t : ℕ) → (t ≡ s → ⊥) → slot_of (region_put m s y) t ≡ slot_of m t
  region-others t n = others-stay m s 128 y h (omega arith) t n

  pub region-front : take head_size (region_put m s y) ≡ take head_size m
  region-front = front-stays m s 128 y h (omega arith)

  pub region-size : length (region_put m s y) ≡ length m
  region-size = length-stays m s 128 y h (omega arith)

  pub region-behind : drop (slot_start s + 640) (region_put m s y) ≡ drop (slot_start s + 640) m
  region-behind = behind-stays m s 128 y h (omega arith)

  -- the region lent as `&mut m[a..end]`, when it is back
  pub region-back : (a end : ℕ) → a ≡ slot_start s + 128 → end ≡ a + 512 → put_mid a (end - a) m y ≡ region_put m s y
  region-back a end f g = put-over a end m y (omega arith) (omega arith) ∙ ap (λ (n : ℕ). overlaid n y m) f
