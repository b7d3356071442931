-- `TextInfo::from_bytes` meets its contract: counts over bytes that fit.
use Rattle.std.proofs.Common.{refl, arith}
use Rattle.plain.specs.Place.{is_start, is_wide}
use Rattle.text_info.proofs.Counts.{count-le, breaks-le, raw-long, raw-is}
use Rattle.text_info.proofs.TextInfo.from_bytes.Goals as goal

pub returns-then-raw-gt-MAX_BYTES : goal.returns-then-raw-gt-MAX_BYTES
returns-then-raw-gt-MAX_BYTES c = raw-long c.args.raw.now (omega arith)

pub overflow_cast-result-2 : goal.overflow_cast-result-2
overflow_cast-result-2 c = omega (arith, c.count.ensures, count-le is_start c.args.raw.now)

pub overflow_cast-result-3 : goal.overflow_cast-result-3
overflow_cast-result-3 c = omega (arith, c.count_surrogates.ensures, count-le is_wide c.args.raw.now)

pub overflow_cast-result-4 : goal.overflow_cast-result-4
overflow_cast-result-4 c = omega (arith, c.count_breaks.ensures, breaks-le c.args.raw.now)

pub returns : goal.returns
returns c = raw-is c.args.raw.now _ _ _ _ (omega arith) refl c.count.ensures c.count_surrogates.ensures c.count_breaks.ensures
