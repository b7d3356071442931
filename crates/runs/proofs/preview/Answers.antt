-- `preview` meets its contract: empty where its companion refuses, else a part of a leaf or of the piece.
use mathlib.Core.Path.{refl}
use mathlib.Core.Logic.{inl, inr, ⊎_elim}
use native.Mathlib.Omega.{arith}
use Rattle.note_head.proofs.Part.{part-of-part}
use Rattle.runs.proofs.Rules.{preview-none, preview-some}
use Rattle.runs.proofs.preview.Goals as goal

pub returns-in_default : goal.returns-in_default
returns-in_default c = let a = c.args in (preview-none a.m.now a.piece.now a.p a.q c.preview_refusal.result c.preview_refusal.ensures _ c.in_default.is, inl (record { from = 0; block = refl; offset = omega arith; inside = omega arith }))

pub returns : goal.returns
returns c =
    let a = c.args in
    (preview-some a.m.now a.piece.now a.p a.q c.preview_refusal.result c.preview_refusal.ensures c.in-Ok.is c.own_part.result.now _ c.own_part.ensures.0 c.joined_from.ensures.0, ⊎_elim (λ x. inl (part-of-part _ _ _ x c.own_part.ensures.1)) (λ x. inr x) c.joined_from.ensures.1)
