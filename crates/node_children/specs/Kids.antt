-- The children of a list, the list with given children, and what an answer with lists in it promises.
use Rattle.answer.specs.Answers.{outcome}
use Rattle.std.specs.Prelude.{◌≡◌, List, ◌++◌, ℕ, ◌-◌, length, take, replicate}
use Rattle.plain.specs.Outcome.{Outcome, Outcome.value, Outcome.refused, kept, mapped}
use Rattle.pool.specs.declared.Kid.{Kid}
use Rattle.pool.specs.Slot.{no_kid}
use Rattle.node_children.specs.declared.NodeChildren.{NodeChildren}
use Rattle.node_children.specs.declared.Listed.{Listed}
use Rattle.node_children.specs.declared.Taken.{Taken}
use Rattle.node_children.specs.declared.Two.{Two}

-- A list's children. A length above 16 names no more than the 16 entries.
abbrev pub kids : NodeChildren → List Kid
kids c = take c.len c.arr

-- the list with exactly these children, and zeros in every entry behind them
unfoldable pub list_of : List Kid → NodeChildren
list_of ks = record { len = length ks; arr = ks ++ replicate (16 - length ks) no_kid }

-- a list of n children, and they are these
pub record Holds (c : NodeChildren) (n : ℕ) (ks : List Kid) : Type 0 where
  pub len : c.len ≡ n
  pub is : c ≡ list_of ks
  pub clean : c ≡ list_of (kids c)

-- the child that a call hands out: a refused one `no_kid`
abbrev pub kid_of : Outcome Kid → Kid
kid_of (value k) = k
kid_of (refused n) = no_kid

-- A call that makes one list of another.
pub record Listing (o : Outcome NodeChildren) (before : NodeChildren) (r : Listed) : Type 0 where
  pub answered : outcome r.verdict ≡ mapped (λ _. tt) o
  pub list : r.list ≡ kept before o

-- A call that takes a child out of a list.
pub record Taking (o : Outcome (Kid × NodeChildren)) (before : NodeChildren) (r : Taken) : Type 0 where
  pub answered : outcome r.verdict ≡ mapped (λ _. tt) o
  pub kid : r.kid ≡ kid_of (mapped (λ t. t.0) o)
  pub list : r.list ≡ kept before (mapped (λ t. t.1) o)

-- A call that gives two lists.
pub record Parting (o : Outcome (NodeChildren × NodeChildren)) (left right : NodeChildren) (r : Two) : Type 0 where
  pub answered : outcome r.verdict ≡ mapped (λ _. tt) o
  pub left-list : r.left ≡ kept left (mapped (λ t. t.0) o)
  pub right-list : r.right ≡ kept right (mapped (λ t. t.1) o)
