-- The laws of the head's writers: what was written is read, and everything else reads as before.
use mathlib.Core.Path.{◌≡◌, refl, sym, ap, ◌∙◌}
use mathlib.Core.Bool.{true, ◌&&◌}
use mathlib.Core.List.{List, [], ◌∷◌, append-nil}
use Prim.Native.Nat.{ℕ, zero, suc, ◌+◌, ◌-◌, ◌≤◌, ◌<◌}
use native.Mathlib.Omega.{arith}
use lib.Dec.{leb}
use lib.ListN.{length, take, drop}
use borrow.Author.Tests.{leb-true}
use Rattle.plain.proofs.Logic.{and_left, and_right}
use Rattle.plain_note.specs.Note.{head_size}
use Rattle.octets.specs.Over.{overlaid}
use Rattle.octets.proofs.Over.{overlaid-length, part-is, over-front, over-rest, part-behind, byte-behind}
use Rattle.octets.specs.Big.{bytes_of4}
use Rattle.pool.specs.Slot.{slot_start, slot_of, kid_at, kid_bytes, Fits}
use Rattle.pool.specs.declared.Kid.{Kid}
use Rattle.octets.proofs.Numbers.{four-length, four-behind, four-written}
use Rattle.pool.proofs.Kids.{kid-length, kid-back}
use Rattle.note_head.specs.Head.{Field, root_field, height_field, edit_of, root_of, height_of, free_of, mark_start, live_at, place_at, mark_at, marks_from}
use Rattle.note_head.specs.Writes.{number_put, root_put, height_put}
use Rattle.note_head.proofs.Table.{apart, FieldTells, read_back, read_same, root-tells, height-tells}

-- ── bytes laid in the head, at whatever place: what lies before them and what lies behind them stays ──

module _ (a : ℕ) (x m : List ℕ) (h : head_size ≤ length m) (k : a + length x ≤ head_size) where
  abbrev later : List ℕ
  later = overlaid a x m

  inside : a + length x ≤ length m
  inside = omega arith

  pub laid-size : length later ≡ length m
  laid-size = overlaid-length a x m inside

  pub laid-slots : (s : ℕ) → slot_of later s ≡ slot_of m s
  unfolding slot_of
  laid-slots s = part-behind a x m inside (slot_start s) 640 (omega arith)

  pub laid-behind : (q : ℕ) → head_size ≤ q → drop q later ≡ drop q m
  laid-behind q g = over-rest a x m inside q (omega arith)

  pub laid-front : (q : ℕ) → q ≤ a → take q later ≡ take q m
  laid-front q g = over-front a x m inside q g

  -- from one place on, up to another
  pub laid-part : (q e : ℕ) → a + length x ≤ q → drop q (take e later) ≡ drop q (take e m)
  laid-part q e g = part-is q e later ∙ part-behind a x m inside q (e - q) g ∙ sym (part-is q e m)

  module _ (g : a + length x ≤ 2048) where
    laid-live : (i : ℕ) → live_at later i ≡ live_at m i
    unfolding live_at
    laid-live i = byte-behind a x m inside (mark_start i) (omega arith)

    laid-place : (i : ℕ) → place_at later i ≡ place_at m i
    unfolding place_at
    laid-place i = four-behind a x m inside (mark_start i + 4) (omega arith)

    laid-mark : (i : ℕ) → mark_at later i ≡ mark_at m i
    unfolding mark_at
    laid-mark i = rw (laid-live i, laid-place i)

    laid-marks : (i j : ℕ) → marks_from later i j ≡ marks_from m i j
    unfolding marks_from
    laid-marks i zero = refl
    laid-marks i (suc j) = rw (laid-mark i, laid-marks (suc i) j)

-- what no writer of a number, a root or a height touches
pub record Around (m later : List ℕ) : Type 0 where
  pub size : length later ≡ length m
  pub slots : (s : ℕ) → slot_of later s ≡ slot_of m s
  pub behind : (q : ℕ) → head_size ≤ q → drop q later ≡ drop q m
  pub rest : drop 36 (take head_size later) ≡ drop 36 (take head_size m)
  pub live : (i : ℕ) → live_at later i ≡ live_at m i
  pub place : (i : ℕ) → place_at later i ≡ place_at m i
  pub mark : (i : ℕ) → mark_at later i ≡ mark_at m i
  pub marks : (i j : ℕ) → marks_from later i j ≡ marks_from m i j

around : (a : ℕ) (x m : List ℕ) → head_size ≤ length m → a + length x ≤ 36 → Around m (overlaid a x m)
around a x m h k =
    let i : a + length x ≤ head_size = omega arith in
    let l : a + length x ≤ 2048 = omega arith in
    record {
      size = laid-size a x m h i;
      slots = laid-slots a x m h i;
      behind = laid-behind a x m h i;
      rest = laid-part a x m h i 36 head_size k;
      live = laid-live a x m h i l;
      place = laid-place a x m h i l;
      mark = laid-mark a x m h i l;
      marks = laid-marks a x m h i l;
    }

-- ── a number, the root, the height ──

kid-read : (k : Kid) → Fits k → kid_at (kid_bytes k) 0 ≡ k
kid-read k f = ap (λ (b : List ℕ). kid_at b 0) (sym (append-nil (kid_bytes k))) ∙ kid-back k [] f

module _ (m : List ℕ) (h : head_size ≤ length m) where
  -- what another field tells
  module _ {A : Type 0} {f : Field} {read by : List ℕ → A} (t : FieldTells f read by) where
    pub number_same : (a v : ℕ) → (leb (a + 4) head_size && apart f (a, 4)) ≡ true → read (number_put m a v) ≡ read m
    number_same a v e =
        let l = leb-true (a + 4) head_size (and_left (leb (a + 4) head_size) _ e) in
        read_same t (a, 4) (and_right (leb (a + 4) head_size) _ e) (bytes_of4 v) m (four-length v) (omega arith)

    pub root-same : (k : Kid) → apart f root_field ≡ true → read (root_put m k) ≡ read m
    root-same k e = read_same t root_field e (kid_bytes k) m (kid-length k) (omega arith)

    pub height-same : (v : ℕ) → apart f height_field ≡ true → read (height_put m v) ≡ read m
    height-same v e = read_same t height_field e (v ∷ []) m refl (omega arith)

  -- what is written is read
  pub edit-set : (v : ℕ) → v < 4294967296 → edit_of (number_put m 4 v) ≡ v
  unfolding edit_of
  edit-set v k = four-written 4 v m (omega arith) k

  pub free-set : (v : ℕ) → v < 4294967296 → free_of (number_put m 32 v) ≡ v
  unfolding free_of
  free-set v k = four-written 32 v m (omega arith) k

  pub height-set : (v : ℕ) → height_of (height_put m v) ≡ v
  height-set v = read_back height-tells (v ∷ []) m refl (omega arith)

  pub root-set : (k : Kid) → Fits k → root_of (root_put m k) ≡ k
  root-set k f = read_back root-tells (kid_bytes k) m (kid-length k) (omega arith) ∙ kid-read k f

  -- and what lies around
  pub number-around : (a v : ℕ) → a + 4 ≤ 36 → Around m (number_put m a v)
  number-around a v k = around a (bytes_of4 v) m h (omega (arith, four-length v))

  pub root-around : (k : Kid) → Around m (root_put m k)
  root-around k = around 8 (kid_bytes k) m h (omega (arith, kid-length k))

  pub height-around : (v : ℕ) → Around m (height_put m v)
  height-around v = around 28 (v ∷ []) m h (omega arith)

  pub free-front : (v : ℕ) → take 32 (number_put m 32 v) ≡ take 32 m
  free-front v = laid-front 32 (bytes_of4 v) m h (omega (arith, four-length v)) 32 (omega arith)
