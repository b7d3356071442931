-- Document 01, "Refusal numbers": "Where several apply, the lowest number is given, except that 12 comes first."
use Rattle.std.specs.Prelude.{◌≡◌, Bool, true, ◌&&◌, cond, List, [], ◌∷◌, ℕ, ltb, eqb}
use Rattle.plain.specs.Outcome.{Outcome, Rule, ruled, mapped}

-- where a number stands among those that apply
abbrev pub rank : ℕ → ℕ
rank n = cond (eqb n 12) 0 n

-- rules that stand in this order, each behind the rank b
abbrev pub behind : ℕ → List Rule → Bool
behind b [] = true
behind b (r ∷ rs) = ltb b (rank r.0) && behind (rank r.0) rs

abbrev pub ordered : List Rule → Bool
ordered [] = true
ordered (r ∷ rs) = behind (rank r.0) rs

-- whether an outcome is a value, and else the number
abbrev pub judged : {A : Type 0} → Outcome A → Outcome (Unit {0})
judged o = mapped (λ a. tt) o

-- whether a call is refused, and by which number, is settled by these rules, and they stand in this order
pub record InOrder {A : Type 0} (rules : List Rule) (o : Outcome A) : Type 0 where
  pub settled : judged o ≡ ruled rules tt
  pub order : ordered rules ≡ true
