-- `add` meets its contract: the child put in, and the list kept or parted.
use Rattle.list_step.proofs.Stored.{insert-never, one-few, add-one-done, split-never, two-few, add-two-done}
use Rattle.list_step.proofs.add.Goals as goal

pub keep-requires : goal.keep-requires
keep-requires c =
    let a = c.args in
    let o = c.insert-more in
    (c.requires.0, one-few a.m.now a.slot a.at a.item a.list c.requires.1 o.result o.ensures c.if-n-lt-MAX_LEN.true)

pub part-requires : goal.part-requires
part-requires c =
    let a = c.args in
    let o = c.insert_split-two in
    let t = two-few a.m.now a.slot a.at a.item a.list c.requires.1 c.requires.2 o.result o.ensures c.if-n-lt-MAX_LEN.false in
    (c.requires.0, t.0, t.1)

pub returns-in_err-more : goal.returns-in_err-more
returns-in_err-more c =
    let a = c.args in
    let o = c.insert-more in
    insert-never a.m.now a.slot a.at a.item a.list c.requires.1 o.result o.ensures c.if-n-lt-MAX_LEN.true _ c.in_err-more.was

pub returns-in_ok-more : goal.returns-in_ok-more
returns-in_ok-more c =
    let a = c.args in
    let o = c.insert-more in
    add-one-done a.m.now a.slot a.at a.item a.list c.requires.1 o.result o.ensures c.if-n-lt-MAX_LEN.true _ _ c.keep.ensures

pub returns-in_err-two : goal.returns-in_err-two
returns-in_err-two c =
    let a = c.args in
    let o = c.insert_split-two in
    split-never a.m.now a.slot a.at a.item a.list c.requires.1 c.requires.2 o.result o.ensures c.if-n-lt-MAX_LEN.false _ c.in_err-two.was

pub returns-in_ok-two : goal.returns-in_ok-two
returns-in_ok-two c =
    let a = c.args in
    let o = c.insert_split-two in
    add-two-done a.m.now a.slot a.at a.item a.list c.requires.1 c.requires.2 o.result o.ensures c.if-n-lt-MAX_LEN.false _ _ c.part.ensures
