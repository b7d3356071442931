-- `push_str_split` meets its contract.
use Prim.Native.Nat.{ℕ}
use mathlib.Core.Path.{ap}
use Rattle.leaf_bytes.proofs.Rules.{leaves-same}
use Rattle.node_text.specs.Texts.{inserted_split}
use Rattle.leaf_split.proofs.push_str_split.Goals as goal

pub returns : goal.returns
returns c =
    let a = c.args in
    leaves-same _ _ _ _ _ _ _ (ap (λ (n : ℕ). inserted_split a.region.now a.len n a.string.now a.right.now) c.held-n.ensures) c.insert_str_split.ensures
