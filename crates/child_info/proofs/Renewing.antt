-- What `renew` and `update_child_info` come to when the tests of the code have been passed or not.
use Rattle.std.specs.Prelude.{Ok, Err}
use mathlib.Core.Path.{◌≡◌, sym, ap, subst, ◌∙◌}
use mathlib.Core.Bool.{true, false}
use mathlib.Core.List.{List}
use Prim.Native.Nat.{ℕ, ◌≤◌, ◌<◌}
use native.Mathlib.Omega.{arith}
use borrow.Author.Tests.{lt-ltb, le-ltb}
use Rattle.plain.specs.Outcome.{Outcome, Outcome.value, Outcome.refused, past, mapped}
use Rattle.answer.specs.Answers.{refusal_number, Answer, outcome}
use Rattle.answer.specs.declared.Refusal.{Refusal}
use Rattle.text_info.specs.declared.TextInfo.{TextInfo}
use Rattle.pool.specs.declared.Kid.{Kid}
use Rattle.pool.specs.Slot.{len_of, kid_put}
use Rattle.pool.specs.Calls.{outside, kid_set, Wrote}
use Rattle.node_children.proofs.Rules.{none-yes, none-no, past-no, two-passed}
use Rattle.nodes.specs.Node.{is_list}
use Rattle.nodes.specs.Calls.{counted}
use Rattle.child_info.specs.Renewed.{slot_at, renewing}
use Rattle.child_info.specs.Calls.{after, updated}

-- a promise met by another call
pub wrote-same : (o q : Outcome (List ℕ)) (before : List ℕ) (r : Answer (Unit {0})) (end : List ℕ) → q ≡ o → Wrote q before r end → Wrote o before r end
wrote-same o q before r end e w = subst (λ (x : Outcome (List ℕ)). Wrote x before r end) e w

module _ (m : List ℕ) (p i : ℕ) where
  -- ── `renew`: there is such an entry ──

  module _ (within : outside m p ≡ false) (small : i < 16) where
    pub entry_set : (k : Kid) → kid_set m p i k ≡ value (kid_put m p i k)
    unfolding kid_set
    entry_set k = two-passed 2 3 (outside m p) (past i 15) (kid_put m p i k) within (past-no i 15 (omega arith))

  module _ (k : Kid) (is : k.slot ≡ slot_at m p i) (t : Answer TextInfo) (told : outcome t ≡ counted m k.slot) where
    says : outcome t ≡ counted m (slot_at m p i)
    says = told ∙ ap (counted m) is

    pub renew-refused : (q : Refusal) → t ≡ Err q → renewing m p i ≡ refused (refusal_number q)
    unfolding renewing
    renew-refused q e = ap (mapped (λ (x : TextInfo). kid_put m p i (record { slot = slot_at m p i; info = x }))) (sym says ∙ ap outcome e)

    pub renew-done : (n : TextInfo) → t ≡ Ok n → renewing m p i ≡ value (kid_put m p i (record { slot = k.slot; info = n }))
    unfolding renewing
    renew-done n e =
        ap (mapped (λ (x : TextInfo). kid_put m p i (record { slot = slot_at m p i; info = x }))) (sym says ∙ ap outcome e)
        ∙ sym (ap (λ (x : ℕ). value (kid_put m p i (record { slot = x; info = n }))) is)

  -- ── `update_child_info` ──

  pub updated-no : is_list m p ≡ false → updated m p i ≡ refused 2
  unfolding updated after
  updated-no e = rw e

  module _ (e : is_list m p ≡ true) where
    pub updated_none : len_of m p ≡ 0 → updated m p i ≡ refused 12
    unfolding updated after
    updated_none h = rw (e, none-yes (len_of m p) h)

    pub updated-past : 0 < len_of m p → len_of m p ≤ i → updated m p i ≡ refused 3
    unfolding updated after
    updated-past g h = rw (e, none-no (len_of m p) g, le-ltb i (len_of m p) h)

    pub updated-on : i < len_of m p → updated m p i ≡ renewing m p i
    unfolding updated after
    updated-on h = rw (e, none-no (len_of m p) (omega arith), lt-ltb i (len_of m p) h)
