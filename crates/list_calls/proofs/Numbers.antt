-- An answer by the number of its call.
use Rattle.answer.specs.Answers.{Answer}
use Rattle.std.specs.Prelude.{Err}
use mathlib.Core.Path.{◌≡◌, refl, sym, ap, subst, ◌∙◌}
use mathlib.Core.List.{List}
use Prim.Native.Nat.{ℕ, ◌-◌, ◌≤◌, ◌<◌}
use lib.ListN.{get_or}
use borrow.Author.Tests.{lt-ltb, le-ltb, eq-eqb, ne_eqb}
use Rattle.plain.specs.Outcome.{Outcome, Outcome.refused}
use Rattle.answer.specs.declared.Refusal.TheVariants.{Field}
use Rattle.pool.specs.declared.Kid.{Kid}
use Rattle.list_calls.specs.Asked.{Five, asked, calls, asked_by, Replied}
use Rattle.list_calls.specs.declared.Call.{Call}
use Rattle.list_calls.specs.declared.Call.TheVariants.{New}

module _ (m : List ℕ) (p q i j : ℕ) (k : Kid) (n : ℕ) where
  same : (o : Outcome (Five × List ℕ)) (r : Answer Five) (after : List ℕ) → o ≡ asked_by n m p q i j k → Replied o m r after → Replied (asked_by n m p q i j k) m r after
  same o r after e h = subst (λ (x : Outcome (Five × List ℕ)). Replied x m r after) e h

  no_call : refused 10 ≡ asked_by n m p q i j k → Replied (asked_by n m p q i j k) m (Err Field) m
  no_call e = same (refused 10) (Err Field) m e (record { answered = refl; memory = refl })

  pub no-call-0 : n ≡ 0 → Replied (asked_by n m p q i j k) m (Err Field) m
  unfolding asked_by
  no-call-0 e = no_call (sym (rw (eq-eqb n 0 e)))

  pub no-call-above : (n ≡ 0 → ⊥) → 22 < n → Replied (asked_by n m p q i j k) m (Err Field) m
  unfolding asked_by
  no-call-above z h = no_call (sym (rw (ne_eqb n 0 z, lt-ltb 22 n h)))

  pub by_number : (call : Call) (r : Answer Five) (after : List ℕ) → (n ≡ 0 → ⊥) → n ≤ 22 → call ≡ get_or calls (n - 1) New → Replied (asked call m p q i j k) m r after
      → Replied (asked_by n m p q i j k) m r after
  unfolding asked_by
  by_number call r after z h e w = same (asked call m p q i j k) r after (ap (λ (x : Call). asked x m p q i j k) e ∙ sym (rw (ne_eqb n 0 z, le-ltb 22 n h))) w
