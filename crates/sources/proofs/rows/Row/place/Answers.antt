use Rattle.std.proofs.Common.{sym}
use Rattle.sources.proofs.Placing.{storage_found, storage_missing, offset_found, offset_missing, placed}
use Rattle.sources.proofs.rows.Row.place.Goals as goal

pub returns-in_err-chunk : goal.returns-in_err-chunk
returns-in_err-chunk c =
    absurd (storage_missing c.args.shape.now c.args.self (sym c.if-not-is_in_range.ensures) _ _ c.chunk_of.ensures c.storage_number.ensures c.in_err-chunk.was)

pub returns-in_err-offset : goal.returns-in_err-offset
returns-in_err-offset c =
    absurd (offset_missing c.args.shape.now c.args.self (sym c.if-not-is_in_range.ensures) _ _ c.local_of.ensures c.offset.ensures c.in_err-offset.was)

pub returns : goal.returns
returns c =
    let s = c.args.shape.now in
    let row = c.args.self in
    let in-it = sym c.if-not-is_in_range.ensures in
    placed s row in-it _ _ _ _
    (storage_found s row in-it _ _ c.chunk_of.ensures c.storage_number.ensures)
    c.in_ok-chunk.was
    (offset_found s row in-it _ _ c.local_of.ensures c.offset.ensures)
    c.in_ok-offset.was
