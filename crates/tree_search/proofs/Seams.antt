-- Texts joined at seams that part no CR from its LF: which seams follow from which.
use mathlib.Core.Path.{◌≡◌, refl, sym, ap, ◌∙◌}
use mathlib.Core.Bool.{Bool, false, ◌&&◌}
use mathlib.Core.List.{List, [], ◌∷◌, ◌++◌, append-nil}
use Prim.Native.Nat.{ℕ}
use Rattle.plain.specs.Count.{cr_last, lf_first}
use Rattle.plain.proofs.Logic.{and_none}

-- the seam of two texts parts no CR from its LF
abbrev pub Whole : List ℕ → List ℕ → Type 0
Whole a b = (cr_last a && lf_first b) ≡ false

pub cr-append : (a : List ℕ) (y : ℕ) (b : List ℕ) → cr_last (a ++ (y ∷ b)) ≡ cr_last (y ∷ b)
unfolding cr_last
cr-append [] y b = refl
cr-append (x ∷ []) y b = refl
cr-append (x ∷ z ∷ a) y b = cr-append (z ∷ a) y b

-- with nothing on one side
pub no_front : (b : List ℕ) → Whole [] b
unfolding cr_last
no_front b = refl

pub no-back : (a : List ℕ) → Whole a []
unfolding lf_first
no-back a = and_none (cr_last a)

-- of a text in two parts, the part at the seam
pub near-back : (x a b : List ℕ) → Whole x (a ++ b) → Whole x a
unfolding lf_first
near-back x [] b h = no-back x
near-back x (y ∷ a) b h = h

pub near-front : (a b x : List ℕ) → Whole (a ++ b) x → Whole b x
near-front a [] x h = no_front x
near-front a (y ∷ b) x h = ap (λ (t : Bool). t && lf_first x) (sym (cr-append a y b)) ∙ h

-- behind a text that is not empty
pub far-front : (a : List ℕ) (y : ℕ) (b x : List ℕ) → Whole (y ∷ b) x → Whole (a ++ (y ∷ b)) x
far-front a y b x h = ap (λ (t : Bool). t && lf_first x) (cr-append a y b) ∙ h

pub far-back : (x a b : List ℕ) → (a ≡ [] → ⊥) → Whole x a → Whole x (a ++ b)
unfolding lf_first
far-back x [] b n h = absurd (n refl)
far-back x (y ∷ a) b n h = h

-- a text between two, which may be empty
pub over-front : (a b x : List ℕ) → Whole a (b ++ x) → Whole b x → Whole (a ++ b) x
over-front a [] x h g = ap (λ (l : List ℕ). cr_last l && lf_first x) (append-nil a) ∙ h
over-front a (y ∷ b) x h g = far-front a y b x g

pub over-back : (x a b : List ℕ) → Whole x a → Whole (x ++ a) b → Whole x (a ++ b)
unfolding lf_first
over-back x [] b h g = ap (λ (l : List ℕ). cr_last l && lf_first b) (sym (append-nil x)) ∙ g
over-back x (y ∷ a) b h g = h
