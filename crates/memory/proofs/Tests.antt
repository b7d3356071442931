-- The tests of the check's small parts: the least size of a root, a mark, and the head as a whole.
use Rattle.std.specs.Prelude.{Option}
use mathlib.Core.Path.{◌≡◌, refl, sym, ap, subst, ◌∙◌}
use mathlib.Core.Bool.{Bool, true, false}
use mathlib.Core.List.{List}
use Prim.Native.Nat.{ℕ, zero, suc, ◌≤◌, ◌<◌}
use native.Mathlib.Omega.{arith}
use lib.Dec.{leb}
use borrow.Author.Tests.{ne_eqb, lt-leb, le-leb}
use Rattle.plain_note.specs.Note.{limit}
use Rattle.text_info.specs.declared.TextSum.{TextSum}
use Rattle.pool.specs.declared.Kid.{Kid}
use Rattle.tree.specs.Tree.{least_root, tells}
use Rattle.note_head.specs.Head.{root_of, height_of, live_at, place_at}
use Rattle.memory.specs.Formed.{all_below}
use Rattle.tree_check.specs.Met.{NodeMet}
use Rattle.tree_check.specs.declared.Met.{Met}
use Rattle.memory.specs.Checks.{head_right, mark_right, RootMet}

pub least-leaf : (h : ℕ) → h ≡ 0 → 0 ≡ least_root h
unfolding least_root
least-leaf zero e = refl
least-leaf (suc h) e = absurd (omega arith)

pub least-list : (h : ℕ) → (h ≡ 0 → ⊥) → 2 ≡ least_root h
unfolding least_root
least-list zero f = absurd (f refl)
least-list (suc h) f = refl

-- ── a mark ──

module _ (m : List ℕ) (chars k : ℕ) where
  pub mark-free : live_at m k ≡ 0 → true ≡ mark_right m chars k
  mark-free e = rw e

  pub mark-odd : (live_at m k ≡ 0 → ⊥) → (live_at m k ≡ 1 → ⊥) → false ≡ mark_right m chars k
  mark-odd f g = rw (ne_eqb (live_at m k) 0 f, ne_eqb (live_at m k) 1 g)

  pub mark-live : (p : ℕ) → live_at m k ≡ 1 → p ≡ place_at m k → leb p chars ≡ mark_right m chars k
  mark-live p e q = rw (e, q)

-- ── the head ──

module _ (m : List ℕ) (n : ℕ) (sum : TextSum) (root : Kid) (is : root ≡ root_of m) where
  told-root : (t : Bool) → tells root.info sum ≡ t → tells (root_of m).info sum ≡ t
  told-root t e = ap (λ (k : Kid). tells k.info sum) (sym is) ∙ e

  pub head-untold : tells root.info sum ≡ false → false ≡ head_right m n sum
  unfolding head_right
  head-untold e = rw (told-root false e)

  pub head-large : tells root.info sum ≡ true → limit n < sum.bytes → false ≡ head_right m n sum
  unfolding head_right
  head-large e h = rw (told-root true e, lt-leb sum.bytes (limit n) h)

  pub head-marks : tells root.info sum ≡ true → sum.bytes ≤ limit n → (r : Bool) → r ≡ all_below 256 (mark_right m sum.chars) → r ≡ head_right m n sum
  unfolding head_right
  head-marks e h r q = rw (told-root true e, le-leb sum.bytes (limit n) h) q

-- the tree from the root on, by what the head says of the root
pub root-met : (m seen later : List ℕ) (r : Option Met) (root : Kid) (h l s : ℕ) → root ≡ root_of m → h ≡ height_of m → l ≡ least_root h → s ≡ root.slot → NodeMet m seen later l h s r → RootMet m seen later r
root-met m seen later r root h l s er eh el es p =
    subst (λ (x : ℕ). NodeMet m seen later (least_root x) x (root_of m).slot r) eh
    (subst (λ (x : ℕ). NodeMet m seen later x h (root_of m).slot r) el (subst (λ (x : ℕ). NodeMet m seen later l h x r) (es ∙ ap (λ (k : Kid). k.slot) er) p))
