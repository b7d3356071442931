-- From the tests of the code to the definitions: the child that an index lies in, and the leaf below it.
use Rattle.std.specs.Prelude.{Ok, Err}
use mathlib.Core.Path.{◌≡◌, refl, sym, ap, ◌∙◌}
use mathlib.Core.Bool.{Bool, true, false}
use mathlib.Core.List.{List}
use Prim.Native.Nat.{ℕ, zero, suc, ◌+◌, ◌-◌, ◌*◌, ◌≤◌, ◌<◌}
use native.Mathlib.Omega.{arith}
use lib.ListN.{length, get_or}
use Rattle.plain.specs.Outcome.{Outcome.value, Outcome.refused, mapped}
use Rattle.answer.specs.Answers.{refusal_number, Answer, outcome}
use Rattle.answer.specs.declared.Refusal.{Refusal}
use Rattle.text_info.specs.Info.{zeros}
use Rattle.text_info.specs.declared.TextSum.{TextSum}
use Rattle.pool.specs.declared.Kid.{Kid}
use Rattle.pool.specs.Slot.{slot_start, no_kid}
use Rattle.pool.specs.Calls.{child_of}
use Rattle.pool.proofs.Opened.{child-opened, child-there}
use Rattle.node_children.specs.Kids.{list_of}
use Rattle.child_search.specs.declared.Measure.{Measure}
use Rattle.child_search.specs.Sought.{searched, Small, Within}
use Rattle.nodes.specs.Node.{is_list, children_of}
use Rattle.nodes.specs.Calls.{list_searched}
use Rattle.nodes.proofs.Heads.{list-says}
use Rattle.nodes.proofs.Rules.{search_is, search-not, search-child}
use Rattle.tree.specs.Tree.{plus_sum}
use Rattle.tree_search.specs.Search.{Bounded, Narrow, count_in, branch_at, below, leaf_at}

-- ── a child ──

pub small-found : (f : Answer (ℕ × TextSum)) (i : ℕ) (left : TextSum) → Small f → f ≡ Ok (i, left) → (i < 16) × Within left 16
small-found f i left s e = rw e at s

-- the child at an index, told with its slot
abbrev pub told : List ℕ → ℕ → ℕ × TextSum → ℕ × (ℕ × TextSum)
told m s c = (c.0, ((get_or (children_of m s) c.0 no_kid).slot, c.1))

module _ (m : List ℕ) (s : ℕ) (by : Measure) (at : ℕ) where
  pub listed : is_list m s ≡ true → branch_at m s by at ≡ mapped (told m s) (searched (list_of (children_of m s)) by at)
  unfolding branch_at
  listed e = rw e

  unlisted : is_list m s ≡ false → branch_at m s by at ≡ refused 2
  unfolding branch_at
  unlisted e = rw e

  searched-so : branch_at m s by at ≡ mapped (told m s) (list_searched m s by at)
  searched-so = go (is_list m s) refl
    where
      go : (b : Bool) → is_list m s ≡ b → branch_at m s by at ≡ mapped (told m s) (list_searched m s by at)
      go true e = listed e ∙ ap (mapped (told m s)) (sym (search_is m s by at e))
      go false e = unlisted e ∙ ap (mapped (told m s)) (sym (search-not m s by at e))

  module _ (f : Answer (ℕ × TextSum)) (search : outcome f ≡ list_searched m s by at) where
    pub child-refused : (q : Refusal) → f ≡ Err q → refused (refusal_number q) ≡ branch_at m s by at
    child-refused q e = ap (mapped (told m s)) (sym (ap outcome e) ∙ search) ∙ sym searched-so

    module _ (i : ℕ) (left : TextSum) (e : f ≡ Ok (i, left)) (r : Answer ℕ) (p : outcome r ≡ child_of m s i) where
      at-child : list_searched m s by at ≡ value (i, left)
      at-child = sym search ∙ ap outcome e

      -- the entry of a child that was found is there
      in_list : (slot_start s + 640 ≤ length m) × (i < 16)
      in_list = let c = search-child m s by at i left at-child in ((list-says m s c.0).0, omega (arith, c.1, (list-says m s c.0).2))

      pub child-none : (q : Refusal) → r ≡ Err q → refused (refusal_number q) ≡ branch_at m s by at
      child-none q z = absurd (child-there m s i in_list.0 in_list.1 r p q z)

      pub child-found : (n : ℕ) → r ≡ Ok n → value (i, (n, left)) ≡ branch_at m s by at
      child-found n z =
          let c = search-child m s by at i left at-child in
          ap (λ (x : ℕ). value (i, (x, left))) (child-opened m s i in_list.0 in_list.1 r p n z ∙ ap (λ (k : Kid). k.slot) c.2)
          ∙ ap (mapped (told m s)) (sym at-child)
          ∙ sym searched-so

-- ── the leaf below ──

module _ (m : List ℕ) (by : Measure) (at : ℕ) where
  pub leaf-here : (h s : ℕ) (z : TextSum) → h ≡ 0 → z ≡ zeros → value (s, z) ≡ leaf_at m h s by at
  unfolding leaf_at
  leaf-here h s z e f = rw (e, f)

  pub leaf-step : (h s : ℕ) → 0 < h → leaf_at m h s by at ≡ below (λ (c : ℕ) (left : TextSum). leaf_at m (h - 1) c by (at - count_in by left)) (branch_at m s by at)
  unfolding leaf_at
  leaf-step zero s g = absurd (omega arith)
  leaf-step (suc h) s g = let z : suc h - 1 ≡ h = omega arith in rw z

  module _ (h s : ℕ) (some : 0 < h) (child : Answer (ℕ × (ℕ × TextSum))) (promise : outcome child ≡ branch_at m s by at) where
    pub leaf-refused : (q : Refusal) → child ≡ Err q → refused (refusal_number q) ≡ leaf_at m h s by at
    leaf-refused q e =
        ap (below (λ (c : ℕ) (left : TextSum). leaf_at m (h - 1) c by (at - count_in by left))) (sym (ap outcome e) ∙ promise) ∙ sym (leaf-step h s some)

    module _ (i k : ℕ) (left : TextSum) (is : child ≡ Ok (i, (k, left))) (down : Answer (ℕ × TextSum)) (j : ℕ) (rest : j ≡ at - count_in by left)
        (found : outcome down ≡ leaf_at m (h - 1) k by j)
      where
        stepped : mapped (λ (r : ℕ × TextSum). (r.0, plus_sum left r.1)) (outcome down) ≡ leaf_at m h s by at
        stepped =
            ap (mapped (λ (r : ℕ × TextSum). (r.0, plus_sum left r.1))) (found ∙ ap (λ (i : ℕ). leaf_at m (h - 1) k by i) rest)
            ∙ ap (below (λ (c : ℕ) (left : TextSum). leaf_at m (h - 1) c by (at - count_in by left))) (sym (ap outcome is) ∙ promise)
            ∙ sym (leaf-step h s some)

        pub below-refused : (q : Refusal) → down ≡ Err q → (outcome down ≡ leaf_at m h s by at) × Bounded h down
        below-refused q e = (ap outcome e ∙ ap (λ (d : Answer (ℕ × TextSum)). mapped (λ (r : ℕ × TextSum). (r.0, plus_sum left r.1)) (outcome d)) (sym e) ∙ stepped, rw e tt)

        pub below-found : (leaf : ℕ) (inner sum : TextSum) → down ≡ Ok (leaf, inner) → sum ≡ plus_sum left inner → value (leaf, sum) ≡ leaf_at m h s by at
        below-found leaf inner sum e f = ap (λ (x : TextSum). value (leaf, x)) f ∙ ap (λ (d : Answer (ℕ × TextSum)). mapped (λ (r : ℕ × TextSum). (r.0, plus_sum left r.1)) (outcome d)) (sym e) ∙ stepped

-- ── how large the sums are ──

pub bounded_at : (h : ℕ) (d : Answer (ℕ × TextSum)) (s : ℕ) (left : TextSum) → Bounded h d → d ≡ Ok (s, left) → Within left (16 * h)
bounded_at h d s left b e = rw e at b

pub narrow_at : (b : Answer (ℕ × (ℕ × TextSum))) (i s : ℕ) (left : TextSum) → Narrow b → b ≡ Ok (i, (s, left)) → Within left 16
narrow_at b i s left n e = rw e at n

pub no-sums : (z : TextSum) (h : ℕ) → z ≡ zeros → Within z (16 * h)
no-sums z h e = rw e (record { b = omega arith; c = omega arith; u = omega arith; l = omega arith })

pub sums-within : (a b r : TextSum) (h : ℕ) → 0 < h → Within a 16 → Within b (16 * (h - 1)) → r ≡ plus_sum a b → Within r (16 * h)
sums-within a b r h g v w e =
    rw e (record { b = omega (arith, v.b, w.b); c = omega (arith, v.c, w.c); u = omega (arith, v.u, w.u); l = omega (arith, v.l, w.l) })

pub within-less : (a : TextSum) (i n : ℕ) → i ≤ n → Within a i → Within a n
within-less a i n h w = record { b = omega (arith, w.b); c = omega (arith, w.c); u = omega (arith, w.u); l = omega (arith, w.l) }
