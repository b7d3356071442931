-- `finish` meets its contract: what is left holds no whole field, so that there is one line or none.
use mathlib.Core.Path.{◌≡◌, refl, sym, ap, ◌∙◌}
use mathlib.Core.List.{List, ◌++◌, append_assoc}
use Prim.Native.Nat.{ℕ, ◌+◌, ◌≤◌}
use native.Mathlib.Omega.{arith}
use lib.ListN.{length, take}
use Rattle.memory.specs.Formed.{note_of}
use Rattle.plain_journal.specs.Listing.{field_line, ending}
use Rattle.plain_journal.proofs.Framing.{fields-none}
use Rattle.journal.proofs.Turns.{lines-nil, lines_cut, one-cut}
use Rattle.journal.proofs.finish.Goals as goal

pub returns-then-used-eq0 : goal.returns-then-used-eq0
returns-then-used-eq0 c =
    let a = c.args in
    let pre = c.requires in
    let none = c.if-used-eq0.true in
    let o = take a.put a.out.now in
    let room : a.put + 20590 ≤ length a.out.now = omega (arith, pre.1) in
    let p = (c.put_ending-p.ensures.0 pre.0).0 room in
    record {
      used = refl;
      over = refl;
      count = omega (arith, ap length (fields-none a.rest.now none));
      put-le = omega (arith, p.0);
      lines = p.1.1 ∙ ap (λ (l : List ℕ). o ++ (l ++ ending (note_of a.m.now))) (sym (lines-nil a.m.now a.rest.now a.k none));
    }

pub overflow_add-result : goal.overflow_add-result
overflow_add-result c = omega (arith, c.if-used-eq0.false, c.requires.3)

pub returns : goal.returns
returns c =
    let a = c.args in
    let pre = c.requires in
    let some = c.if-used-eq0.false in
    let N = note_of a.m.now in
    let o = take a.put a.out.now in
    let f = c.put_field-q in
    let same : length f.new.out ≡ length a.out.now = f.auto.out in
    let first : a.put + 50 ≤ length a.out.now = omega (arith, pre.1) in
    let q = f.ensures.0 first in
    let room : f.result + 20590 ≤ length f.new.out = omega (arith, pre.1, q.0) in
    let p = (c.put_ending-p-2.ensures.0 pre.0).0 room in
    record {
      used = refl;
      over = refl;
      count = omega (arith, one-cut a.m.now a.rest.now a.k some pre.2);
      put-le = omega (arith, p.0, q.0);
      lines = p.1.1 ∙ ap (λ (l : List ℕ). l ++ ending N) q.1.1 ∙ append_assoc o (field_line a.k 10) (ending N)
          ∙ ap (λ (l : List ℕ). o ++ (l ++ ending N)) (sym (lines_cut a.m.now a.rest.now a.k some pre.2));
    }
