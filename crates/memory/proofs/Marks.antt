-- The marks of the slots that were met, by their bytes, and those at the start.
use mathlib.Core.Path.{◌≡◌, refl, sym, ap, ◌∙◌}
use mathlib.Core.Bool.{Bool, true, false, not, ◌&&◌, and_comm}
use mathlib.Core.List.{List}
use Prim.Native.Nat.{ℕ, ◌+◌, ◌≤◌, ◌<◌}
use native.Mathlib.Omega.{arith}
use native.Mathlib.Numerals.{add-one}
use lib.Dec.{eqb}
use lib.ListN.{length, get_or, take, replicate, length-replicate, get_or-replicate}
use lib.Seq.{set-get_or, get_or-set_same, get_or-take, length-take-le}
use borrow.Author.Tests.{eq-eqb}
use Rattle.plain.specs.Count.{bit}
use Rattle.tree_check.specs.Met.{mark}
use Rattle.memory.specs.Formed.{all_below}
use Rattle.memory.specs.Checks.{met}

-- within a list one default is as good as another
same_byte : (l : List ℕ) (x : ℕ) → x < length l → get_or l x 1 ≡ get_or l x 0
same_byte l x h = sym (get_or-set_same l x (get_or l x 1) 0 h) ∙ ap (λ (k : List ℕ). get_or k x 0) (set-get_or l x 1)

pub mark-no : (seen : List ℕ) (x : ℕ) → x < length seen → get_or seen x 0 ≡ 0 → mark seen x ≡ 0
unfolding mark
mark-no seen x h e = rw (eq-eqb (get_or seen x 1) 0 (same_byte seen x h ∙ e))

-- one slot more of those that were met
bit-one : (t : Bool) → t ≡ eqb (bit t) 1
bit-one true = refl
bit-one false = refl

pub met-more : (seen : List ℕ) (x : ℕ) (all : Bool) → x < length seen → all ≡ all_below x (met seen) → (all && not (eqb (get_or seen x 0) 0)) ≡ all_below (x + 1) (met seen)
unfolding all_below mark
met-more seen x all h e =
    (λ i. e i && not (eqb (sym (same_byte seen x h) i) 0)) ∙ and_comm (all_below x (met seen)) (not (eqb (get_or seen x 1) 0))
    ∙ ap (λ (t : Bool). t && all_below x (met seen)) (bit-one (not (eqb (get_or seen x 1) 0))) ∙ ap (λ (k : ℕ). all_below k (met seen)) (sym (add-one x))

-- ── the marks at the start ──

abbrev pub none_met : List ℕ
none_met = replicate 4096 0

pub zeros-length : (n : ℕ) → n ≤ 4096 → length (take n none_met) ≡ n
zeros-length n h = length-take-le n none_met (omega (arith, length-replicate {A = ℕ} 4096 0))

pub zeros-none : (n x : ℕ) → n ≤ 4096 → x < n → mark (take n none_met) x ≡ 0
zeros-none n x h l = mark-no (take n none_met) x (omega (arith, zeros-length n h)) (get_or-take n none_met x 0 l ∙ get_or-replicate 4096 x 0 0 (omega arith))
