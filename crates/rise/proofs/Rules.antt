-- From the answers of the steps below to the outcomes of `Rise`: a small child put into its list and joined, and what became of a child by
-- what the edit said of it.
use Rattle.std.specs.Prelude.{Ok, Err}
use mathlib.Core.Path.{◌≡◌, refl, sym, ap, subst, ◌∙◌}
use mathlib.Core.List.{List}
use mathlib.Core.Logic.{◌⊎◌, ⊎_elim}
use Prim.Native.Nat.{ℕ, ◌-◌}
use Rattle.plain.specs.Outcome.{Outcome, Outcome.value, Outcome.refused, kept, mapped}
use Rattle.answer.specs.Answers.{refusal_number, Answer}
use Rattle.answer.specs.declared.Refusal.{Refusal}
use Rattle.text_info.specs.declared.TextInfo.{TextInfo}
use Rattle.edit_steps.specs.declared.Edit.{Edit}
use Rattle.edit_steps.specs.declared.Edit.TheVariants as Edit·case
use Rattle.edit_steps.specs.Made.{Made, Made.same, Made.split, Made.small, Made.apart, edit, Stepped}
use Rattle.edit_steps.specs.Acts.{Act, settled, reading, Did}
use Rattle.list_step.specs.Steps.{one_put, two_put}
use Rattle.mend_step.specs.Mended.{mended}
use Rattle.rise.specs.Rise.{joined_small, small_put, risen, risen_by}

-- a step, as a call that works on the memory
step-act : (m : List ℕ) (o : Outcome (Made × List ℕ)) (r : Answer Edit) (after : List ℕ) → Stepped o m r after → Did edit (settled m o) r after
step-act m o r after s = record { answered = s.answered; memory = s.memory }

act-as : (o p : Act Made) (r : Answer Edit) (after : List ℕ) → o ≡ p → Did edit p r after → Did edit o r after
act-as o p r after e d = subst (λ (a : Act Made). Did edit a r after) (sym e) d

-- ── a small child ──

-- the first step answered r and left l
module _ (m : List ℕ) (p i : ℕ) (info : TextInfo) (r : Answer Edit) (l : List ℕ) (w : Stepped (one_put m p i info) m r l) where
  small_by : (o : Outcome Made) → edit r ≡ o → small_put m p i info ≡ reading l o (joined_small l p i)
  unfolding small_put
  small_by o e =
      ap (λ (x : Outcome Made). reading (kept m (mapped (λ t. t.1) (one_put m p i info))) x (joined_small (kept m (mapped (λ t. t.1) (one_put m p i info))) p i)) (sym w.answered ∙ e)
      ∙ ap (λ (x : List ℕ). reading x o (joined_small x p i)) (sym w.memory)

  pub mend-done : (all : TextInfo) (j : ℕ) → j ≡ i - 1 → (s : Answer Edit) (after : List ℕ) → Stepped (mended l p j all) l s after
      → (made : Edit) → r ≡ Ok made → ◌⊎◌ (made ≡ Edit·case.Same all) (made ≡ Edit·case.Small all) → Did edit (small_put m p i info) s after
  mend-done all j at s after v made e is =
      let mending = settled l (mended l p j all) in
      act-as (small_put m p i info) mending s after
      (⊎_elim {C = small_put m p i info ≡ settled l (mended l p (i - 1) all)}
      (λ f. small_by (value (same all)) (ap edit (e ∙ ap Ok f))) (λ f. small_by (value (small all)) (ap edit (e ∙ ap Ok f))) is
      ∙ ap (λ (k : ℕ). settled l (mended l p k all)) (sym at))
      (step-act l (mended l p j all) s after v)

  -- any other child is told as it is
  pub small-other : (made : Edit) → r ≡ Ok made → ((x : TextInfo) → made ≡ Edit·case.Same x → ⊥) → ((x : TextInfo) → made ≡ Edit·case.Small x → ⊥) → Did edit (small_put m p i info) (Ok made) l
  small-other (Edit·case.Same x) e f g = absurd (f x refl)
  small-other (Edit·case.Small x) e f g = absurd (g x refl)
  small-other (Edit·case.Split a v b) e f g =
      act-as (small_put m p i info) (value (split a v b), l) (Ok (Edit·case.Split a v b)) l (small_by (value (split a v b)) (ap edit e)) (record { answered = refl; memory = refl })
  small-other Edit·case.Apart e f g =
      act-as (small_put m p i info) (value apart, l) (Ok Edit·case.Apart) l (small_by (value apart) (ap edit e)) (record { answered = refl; memory = refl })

  pub small-refused : (q : Refusal) → r ≡ Err q → Did edit (small_put m p i info) (Err q) l
  small-refused q e =
      act-as (small_put m p i info) (refused (refusal_number q), l) (Err q) l (small_by (refused (refusal_number q)) (ap edit e)) (record { answered = refl; memory = refl })

-- ── what became of a child ──

module _ (m : List ℕ) (p i : ℕ) (made : Edit) where
  by : (x : Edit) → made ≡ x → (r : Answer Edit) (after : List ℕ) → Did edit (risen_by m p i (edit (Ok x))) r after → Did edit (risen_by m p i (edit (Ok made))) r after
  by x e r after d = subst (λ (y : Edit). Did edit (risen_by m p i (edit (Ok y))) r after) (sym e) d

  pub rise-same : (info : TextInfo) (r : Answer Edit) (after : List ℕ) → made ≡ Edit·case.Same info → Stepped (one_put m p i info) m r after → Did edit (risen_by m p i (edit (Ok made))) r after
  unfolding risen
  rise-same info r after e s = by (Edit·case.Same info) e r after (step-act m (one_put m p i info) r after s)

  pub rise-split : (info : TextInfo) (right : ℕ) (other : TextInfo) (r : Answer Edit) (after : List ℕ) → made ≡ Edit·case.Split info right other
      → Stepped (two_put m p i info right other) m r after → Did edit (risen_by m p i (edit (Ok made))) r after
  unfolding risen
  rise-split info right other r after e s = by (Edit·case.Split info right other) e r after (step-act m (two_put m p i info right other) r after s)

  pub rise-small : (info : TextInfo) (r : Answer Edit) (after : List ℕ) → made ≡ Edit·case.Small info → Did edit (small_put m p i info) r after → Did edit (risen_by m p i (edit (Ok made))) r after
  unfolding risen
  rise-small info r after e d = by (Edit·case.Small info) e r after d

  pub rise-apart : made ≡ Edit·case.Apart → Did edit (risen_by m p i (edit (Ok made))) (Ok Edit·case.Apart) m
  unfolding risen
  rise-apart e = by Edit·case.Apart e (Ok Edit·case.Apart) m (record { answered = refl; memory = refl })
