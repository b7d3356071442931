-- `asks` meets its contract.
use Rattle.child_info.proofs.checks.asks.Goals as goal

pub returns-in-Leaf : goal.returns-in-Leaf
returns-in-Leaf c = rw c.in-Leaf.is c.leaf.ensures

pub returns-in-List : goal.returns-in-List
returns-in-List c = rw c.in-List.is c.list.ensures

pub returns-in-Lost : goal.returns-in-Lost
returns-in-Lost c = rw c.in-Lost.is c.refused_by.ensures

pub returns-in-Ill : goal.returns-in-Ill
returns-in-Ill c = rw c.in-Ill.is c.refused_by-in-Ill.ensures

pub returns-in-Stale : goal.returns-in-Stale
returns-in-Stale c = rw c.in-Stale.is c.stale.ensures
