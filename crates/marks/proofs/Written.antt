-- A mark written: what was written is read, and the other marks read as before.
use Rattle.std.proofs.Common.{◌≡◌, ℕ, zero, suc, ◌+◌, ◌<◌, ◌≤◌, Bool, cond, List, [], ◌∷◌, length, get_or, set, sym, refl, ap, ◌∙◌, not-suc-le-zero, arith, length-set, get_or-set_other, get_or-set_same, ext_get_or, eq-eqb, ne_eqb}
use Rattle.plain.proofs.Logic.{cut}
use Rattle.plain_note.specs.Note.{Mark, Mark.free, Mark.at, head_size}
use Rattle.plain_calls.proofs.Marks.{same_or_not}
use Rattle.octets.specs.Big.{bytes_of4}
use Rattle.octets.proofs.Over.{byte-before, byte-in, byte-behind}
use Rattle.octets.proofs.Numbers.{four-length, four-before, four-behind, four-written}
use Rattle.note_head.specs.Head.{mark_start, live_at, place_at, mark_at, marks_from}
use Rattle.note_head.specs.Writes.{live_put, place_put}
use Rattle.marks.specs.MarkBytes.{mark_put}
use Rattle.marks.proofs.Beside.{Beside, beside-laid, beside-twice}

-- ── the bytes of one mark ──

module _ (m : List ℕ) (h : head_size ≤ length m) (k : ℕ) (l : k < 256) (v : ℕ) where
  -- whether it is live
  one-fits : mark_start k + length {A = ℕ} (v ∷ []) ≤ length m
  one-fits = omega arith

  pub live-beside : Beside m (live_put m k v)
  live-beside = beside-laid (mark_start k) (v ∷ []) m h (omega arith) (omega arith)

  pub live-put : live_at (live_put m k v) k ≡ v
  unfolding live_at
  live-put =
      let z : mark_start k ≡ mark_start k + 0 = omega arith in
      ap (λ (i : ℕ). get_or (live_put m k v) i 0) z ∙ byte-in (mark_start k) (v ∷ []) m one-fits 0 (omega arith)

  pub live-other : (i : ℕ) → (i ≡ k → ⊥) → live_at (live_put m k v) i ≡ live_at m i
  unfolding live_at
  live-other i n =
      cut i k (λ a. byte-before (mark_start k) (v ∷ []) m one-fits (mark_start i) (omega arith))
      (λ a. cut k i (λ b. byte-behind (mark_start k) (v ∷ []) m one-fits (mark_start i) (omega arith)) (λ b. absurd (n (omega arith))))

  pub live-places : (i : ℕ) → place_at (live_put m k v) i ≡ place_at m i
  unfolding place_at
  live-places i =
      cut i k (λ a. four-before (mark_start k) (v ∷ []) m one-fits (mark_start i + 4) (omega arith))
      (λ a. four-behind (mark_start k) (v ∷ []) m one-fits (mark_start i + 4) (omega arith))

  -- its place
  four-fits : mark_start k + 4 + length (bytes_of4 v) ≤ length m
  four-fits = omega (arith, four-length v)

  pub place-beside : Beside m (place_put m k v)
  place-beside = beside-laid (mark_start k + 4) (bytes_of4 v) m h (omega arith) (omega (arith, four-length v))

  pub place-put : v < 4294967296 → place_at (place_put m k v) k ≡ v
  unfolding place_at
  place-put s = four-written (mark_start k + 4) v m (omega arith) s

  pub place_other : (i : ℕ) → (i ≡ k → ⊥) → place_at (place_put m k v) i ≡ place_at m i
  unfolding place_at
  place_other i n =
      cut i k (λ a. four-before (mark_start k + 4) (bytes_of4 v) m four-fits (mark_start i + 4) (omega arith))
      (λ a. cut k i (λ b. four-behind (mark_start k + 4) (bytes_of4 v) m four-fits (mark_start i + 4) (omega (arith, four-length v))) (λ b. absurd (n (omega arith))))

  pub place-lives : (i : ℕ) → live_at (place_put m k v) i ≡ live_at m i
  unfolding live_at
  place-lives i =
      cut k i (λ a. byte-behind (mark_start k + 4) (bytes_of4 v) m four-fits (mark_start i) (omega (arith, four-length v)))
      (λ a. byte-before (mark_start k + 4) (bytes_of4 v) m four-fits (mark_start i) (omega arith))

-- ── a mark as it is read ──

module _ (m : List ℕ) (k : ℕ) where
  pub live-mark : live_at m k ≡ 1 → mark_at m k ≡ at (place_at m k)
  unfolding mark_at
  live-mark e = ap (λ (t : Bool). cond t (at (place_at m k)) free) (eq-eqb (live_at m k) 1 e)

  pub free-mark : (live_at m k ≡ 1 → ⊥) → mark_at m k ≡ free
  unfolding mark_at
  free-mark e = ap (λ (t : Bool). cond t (at (place_at m k)) free) (ne_eqb (live_at m k) 1 e)

pub same-mark : (m later : List ℕ) (k : ℕ) → live_at later k ≡ live_at m k → place_at later k ≡ place_at m k → mark_at later k ≡ mark_at m k
unfolding mark_at
same-mark m later k a b = rw (a, b)

-- all marks by their numbers
pub marks-length : (m : List ℕ) (k i : ℕ) → length (marks_from m k i) ≡ i
unfolding marks_from
marks-length m k zero = refl
marks-length m k (suc i) = ap suc (marks-length m (suc k) i)

marks-from : (m : List ℕ) (k i j : ℕ) → j < i → get_or (marks_from m k i) j free ≡ mark_at m (k + j)
unfolding marks_from
marks-from m k zero j h = absurd (not-suc-le-zero h)
marks-from m k (suc i) zero h = let z : k ≡ k + 0 = omega arith in ap (mark_at m) z
marks-from m k (suc i) (suc j) h = let z : suc k + j ≡ k + suc j = omega arith in marks-from m (suc k) i j (omega arith) ∙ ap (mark_at m) z

pub mark-of : (m : List ℕ) (k : ℕ) → k < 256 → get_or (marks_from m 0 256) k free ≡ mark_at m k
mark-of m k h = let z : 0 + k ≡ k = omega arith in marks-from m 0 256 k h ∙ ap (mark_at m) z

-- THEOREM: all marks are those of a list where each is
pub marks-are : (m : List ℕ) (ms : List Mark) → length ms ≡ 256 → ((k : ℕ) → k < 256 → mark_at m k ≡ get_or ms k free) → marks_from m 0 256 ≡ ms
marks-are m ms e f =
    ext_get_or free (marks_from m 0 256) ms (marks-length m 0 256 ∙ sym e)
    (λ k h. let l : k < 256 = omega (arith, marks-length m 0 256) in mark-of m k l ∙ f k l)

-- ── a mark set, and one freed ──

module _ (m : List ℕ) (h : head_size ≤ length m) (k : ℕ) (l : k < 256) where
  set_is : (later : List ℕ) (x : Mark) → mark_at later k ≡ x → ((i : ℕ) → (i ≡ k → ⊥) → mark_at later i ≡ mark_at m i) → marks_from later 0 256 ≡ set (marks_from m 0 256) k x
  set_is later x e f =
      marks-are later (set (marks_from m 0 256) k x) (length-set (marks_from m 0 256) k x ∙ marks-length m 0 256)
      (λ i g. same_or_not k i
      (λ t q. ap (mark_at later) (sym q) ∙ e ∙ sym (get_or-set_same (marks_from m 0 256) k x free (omega (arith, marks-length m 0 256))) ∙ ap (λ (j : ℕ). get_or (set (marks_from m 0 256) k x) j free) q)
      (λ t n. f i n ∙ sym (mark-of m i g) ∙ sym (get_or-set_other (marks_from m 0 256) k i x free n)))

  -- THEOREM: the marks after one was freed
  pub freed-marks : marks_from (live_put m k 0) 0 256 ≡ set (marks_from m 0 256) k free
  freed-marks =
      set_is (live_put m k 0) free (free-mark (live_put m k 0) k (λ e. omega (arith, live-put m h k l 0)))
      (λ i n. same-mark m (live_put m k 0) i (live-other m h k l 0 i n) (live-places m h k l 0 i))

  module _ (q : ℕ) (s : q < 4294967296) where
    abbrev placed : List ℕ
    placed = place_put m k q

    long : head_size ≤ length placed
    long = omega (arith, (place-beside m h k l q).size)

    pub put-beside : Beside m (mark_put m k q)
    put-beside = beside-twice m placed (mark_put m k q) (place-beside m h k l q) (live-beside placed long k l 1)

    pub put-live : live_at (mark_put m k q) k ≡ 1
    put-live = live-put placed long k l 1

    pub put-place : place_at (mark_put m k q) k ≡ q
    put-place = live-places placed long k l 1 k ∙ place-put m h k l q s

    pub put-lives : (i : ℕ) → (i ≡ k → ⊥) → live_at (mark_put m k q) i ≡ live_at m i
    put-lives i n = live-other placed long k l 1 i n ∙ place-lives m h k l q i

    pub put-places : (i : ℕ) → (i ≡ k → ⊥) → place_at (mark_put m k q) i ≡ place_at m i
    put-places i n = live-places placed long k l 1 i ∙ place_other m h k l q i n

    -- THEOREM: the marks after one was set
    pub put-marks : marks_from (mark_put m k q) 0 256 ≡ set (marks_from m 0 256) k (at q)
    put-marks =
        set_is (mark_put m k q) (at q) (live-mark (mark_put m k q) k put-live ∙ ap (λ (p : ℕ). at p) put-place)
        (λ i n. same-mark m (mark_put m k q) i (put-lives i n) (put-places i n))
