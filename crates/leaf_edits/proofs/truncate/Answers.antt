-- `truncate` meets its contract.
use Prim.Native.Nat.{ℕ}
use mathlib.Core.Path.{ap}
use mathlib.Core.List.{[]}
use Rattle.leaf_bytes.proofs.Rules.{leaf-same}
use Rattle.node_text.specs.Texts.{edited}
use Rattle.leaf_edits.proofs.truncate.Goals as goal

pub returns : goal.returns
returns c =
    let a = c.args in
    leaf-same _ _ _ _ _ (ap (λ (n : ℕ). edited a.region.now a.len a.byte_idx n []) c.held-n.ensures) c.edit.ensures
