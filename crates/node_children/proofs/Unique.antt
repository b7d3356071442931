-- No second answer meets a promise: it settles the verdict or the value, every child and every entry behind the children.
use Rattle.answer.specs.Answers.{Answer}
use mathlib.Core.Path.{◌≡◌, sym, ◌∙◌}
use Rattle.plain.specs.Outcome.{Outcome}
use Rattle.answer.proofs.Unique.{answer-one}
use Rattle.pool.specs.declared.Kid.{Kid}
use Rattle.node_children.specs.declared.NodeChildren.{NodeChildren}
use Rattle.node_children.specs.declared.Listed.{Listed}
use Rattle.node_children.specs.declared.Taken.{Taken}
use Rattle.node_children.specs.declared.Two.{Two}
use Rattle.node_children.specs.Kids.{Listing, Taking, Parting}

same-listed : (v w : Answer (Unit {0})) (l m : NodeChildren) → v ≡ w → l ≡ m → ◌≡◌ {A = Listed} (record { verdict = v; list = l }) (record { verdict = w; list = m })
same-listed v w l m e f = rw (e, f)

pub listing-one : (o : Outcome NodeChildren) (before : NodeChildren) (r s : Listed) → Listing o before r → Listing o before s → r ≡ s
listing-one o before r s p q =
    same-listed r.verdict s.verdict r.list s.list (answer-one r.verdict s.verdict (p.answered ∙ sym q.answered)) (p.list ∙ sym q.list)

same_taken : (v w : Answer (Unit {0})) (j k : Kid) (l m : NodeChildren) → v ≡ w → j ≡ k → l ≡ m
    → ◌≡◌ {A = Taken} (record { verdict = v; kid = j; list = l }) (record { verdict = w; kid = k; list = m })
same_taken v w j k l m e f g = rw (e, f, g)

pub taking-one : (o : Outcome (Kid × NodeChildren)) (before : NodeChildren) (r s : Taken) → Taking o before r → Taking o before s → r ≡ s
taking-one o before r s p q =
    same_taken r.verdict s.verdict r.kid s.kid r.list s.list (answer-one r.verdict s.verdict (p.answered ∙ sym q.answered))
    (p.kid ∙ sym q.kid) (p.list ∙ sym q.list)

same-two : (v w : Answer (Unit {0})) (j k l m : NodeChildren) → v ≡ w → j ≡ k → l ≡ m
    → ◌≡◌ {A = Two} (record { verdict = v; left = j; right = l }) (record { verdict = w; left = k; right = m })
same-two v w j k l m e f g = rw (e, f, g)

pub parting-one : (o : Outcome (NodeChildren × NodeChildren)) (left right : NodeChildren) (r s : Two) → Parting o left right r → Parting o left right s → r ≡ s
parting-one o left right r s p q =
    same-two r.verdict s.verdict r.left s.left r.right s.right (answer-one r.verdict s.verdict (p.answered ∙ sym q.answered))
    (p.left-list ∙ sym q.left-list) (p.right-list ∙ sym q.right-list)
