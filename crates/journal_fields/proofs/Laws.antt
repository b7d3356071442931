-- What became of a field, from what it asks for and from the promise of its call; and that such a promise is a step of a sequence of calls.
use mathlib.Core.Path.{◌≡◌, refl, ap, subst⁻¹, ◌∙◌}
use mathlib.Core.List.{List}
use Prim.Native.Nat.{ℕ}
use Rattle.plain.specs.Outcome.{Outcome, Outcome.value, Outcome.refused, mapped}
use Rattle.plain_calls.specs.Calls.{Call, Call.insert, Call.remove, Call.set_mark, Call.drop_mark, Call.look, Said, Said.by, Said.is, inserting, removing, setting, called}
use Rattle.demands.specs.Steps.{Step}
use Rattle.demands.proofs.Bridge.{retold}
use Rattle.plain_journal.specs.Replay.{code_of}
use Rattle.journal_fields.specs.declared.Done.TheVariants.{Bad, Code}
use Rattle.journal_fields.specs.Applied.{Promised, Applied}

-- THEOREM: what a field's call promises is a step of its call.
pub promised-steps : (c : Call) (m : List ℕ) (a : Outcome Said) (after : List ℕ) → Promised c m a after → Step c m a after
unfolding called
promised-steps (insert p piece) m a after w = rw w.1 (retold by (λ N. inserting N p piece) m w.0 after w.2.called)
promised-steps (remove s e) m a after w = rw w.1 (retold by (λ N. removing N s e) m w.0 after w.2.called)
promised-steps (set_mark p) m a after w = rw w.1 (retold is (λ N. setting N p) m w.0 after w.2.called)
promised-steps (drop_mark k) m a after w = absurd w
promised-steps (look l) m a after w = absurd w

module _ (f : Outcome Call) (m : List ℕ) where
  pub applied-bad : f ≡ refused 10 → Applied f m Bad m
  applied-bad e = subst⁻¹ (λ (x : Outcome Call). Applied x m Bad m) e (refl, refl, refl)

  -- an answer of its own kind is told as one of all, and the number stays
  pub applied-call : {A : Type 0} (tell : A → Said) (c : Call) (a : Outcome A) (n : ℕ) (after : List ℕ) → f ≡ value c → n ≡ code_of a → Promised c m (mapped tell a) after → Applied f m (Code n) after
  applied-call {A = A} tell c a n after e code s = subst⁻¹ (λ (x : Outcome Call). Applied x m (Code n) after) e (mapped tell a, ap Code (code ∙ same a), s)
    where
      same : (x : Outcome A) → code_of x ≡ code_of (mapped tell x)
      same (value y) = refl
      same (refused q) = refl
