-- `leaf_calls::ask` meets its contract: in each arm, what the call that it makes ensures.
use Rattle.leaf_calls.specs.declared.Call.TheVariants.{FromStr, InsertStr, InsertStrSplit, PushStr, PushStrSplit, Truncate, TruncateFront, RemoveRange, SplitOff, FixSegmentSeam}
use Rattle.leaf_calls.proofs.Laws.{one-leaf, by_call}
use Rattle.leaf_calls.proofs.ask.Goals as goal

pub returns-in-FromStr : goal.returns-in-FromStr
returns-in-FromStr c = by_call _ _ _ _ _ _ _ FromStr c.in-FromStr.is (one-leaf _ c.args.right_len c.from_str.ensures c.beside.ensures)

pub returns-in-InsertStr : goal.returns-in-InsertStr
returns-in-InsertStr c = by_call _ _ _ _ _ _ _ InsertStr c.in-InsertStr.is (one-leaf _ c.args.right_len c.insert_str.ensures c.beside-in-InsertStr.ensures)

pub returns-in-InsertStrSplit : goal.returns-in-InsertStrSplit
returns-in-InsertStrSplit c = by_call _ _ _ _ _ _ _ InsertStrSplit c.in-InsertStrSplit.is c.insert_str_split.ensures

pub returns-in-PushStr : goal.returns-in-PushStr
returns-in-PushStr c = by_call _ _ _ _ _ _ _ PushStr c.in-PushStr.is (one-leaf _ c.args.right_len c.push_str.ensures c.beside-in-PushStr.ensures)

pub returns-in-PushStrSplit : goal.returns-in-PushStrSplit
returns-in-PushStrSplit c = by_call _ _ _ _ _ _ _ PushStrSplit c.in-PushStrSplit.is c.push_str_split.ensures

pub returns-in-Truncate : goal.returns-in-Truncate
returns-in-Truncate c = by_call _ _ _ _ _ _ _ Truncate c.in-Truncate.is (one-leaf _ c.args.right_len c.truncate.ensures c.beside-in-Truncate.ensures)

pub returns-in-TruncateFront : goal.returns-in-TruncateFront
returns-in-TruncateFront c = by_call _ _ _ _ _ _ _ TruncateFront c.in-TruncateFront.is (one-leaf _ c.args.right_len c.truncate_front.ensures c.beside-in-TruncateFront.ensures)

pub returns-in-RemoveRange : goal.returns-in-RemoveRange
returns-in-RemoveRange c = by_call _ _ _ _ _ _ _ RemoveRange c.in-RemoveRange.is (one-leaf _ c.args.right_len c.remove_range.ensures c.beside-in-RemoveRange.ensures)

pub returns-in-SplitOff : goal.returns-in-SplitOff
returns-in-SplitOff c = by_call _ _ _ _ _ _ _ SplitOff c.in-SplitOff.is c.split_off.ensures

pub returns-in-FixSegmentSeam : goal.returns-in-FixSegmentSeam
returns-in-FixSegmentSeam c = by_call _ _ _ _ _ _ _ FixSegmentSeam c.in-FixSegmentSeam.is c.fix_segment_seam.ensures
