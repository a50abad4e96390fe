use Rattle.std.proofs.Common.{◌++◌, map, length, drop, sym, ap, ◌∙◌, rules, tests}
use Rattle.std.specs.List.{range_with_len}
use Rattle.std.proofs.lemmas.Iterator.{YieldsList-from_slice}
use Rattle.std.proofs.lemmas.Iterator.Consumers.{YieldsList-from_filter_map}
use Rattle.std.proofs.lemmas.List.FromFn.{length-map-range_with_len}
use Rattle.shapes.specs.Views.{dims_of}
use Rattle.shapes.specs.Arrays.{volume}
use Rattle.sources.specs.Rows.{row_value, row_chunks, row_correction}
use Rattle.sources.specs.Meanings.{Meaning}
use Rattle.sources.proofs.Alikes.{room_granted, full_cells}
use Rattle.sources.proofs.Correcting.{drained}
use Rattle.sources.proofs.Tabling.{fresh_cells}
use Rattle.sources.proofs.rows.RowTableSource.fetch.Goals as goal

pub returns-in_err-v-clause-sized : goal.returns-in_err-v-clause-sized
returns-in_err-v-clause-sized g c =
    let m = g.M.Measure in
    let s = c.args.self.now in
    λ k below. length-map-range_with_len (row_value m.empty m.op m.lifted (dims_of s.shape) s.rows.now k) 0 (volume (dims_of s.shape))

pub returns-clause-fills : goal.returns-clause-fills
returns-clause-fills g c =
    let m = g.M.Measure in
    let ds = dims_of c.args.self.now.shape in
    let rows = c.args.self.now.rows.now in
    let k = c.args.number in
    let xs = c.args.into.now in
    let v = c.in_ok-v.v in
    let means : Meaning g.row.M.Denot = record { dims = ds; chunk = row_chunks m.empty m.op m.lifted ds rows } in
    let room = room_granted m.empty means k v (length xs) (sym c.check_room.ensures ∙ c.in_ok-v.was) in
    let joined = c.join_corrections.ensures in
    let made = drained joined.0 joined.1 (YieldsList-from_filter_map _ (row_correction ds) (YieldsList-from_slice rows (cc)) c.filter_map-corrections.ensures.closure (λ r o f call. search (rules, tests))) in
    let fits = room.1 in
    let is_v = room.2 in
    fresh_cells m.lawful m.lifted ds rows joined.0 k v xs c.empty_cells.new.cells c.join_corrections.new.cells made (rw is_v fits) c.empty_cells.ensures joined.2
    ∙ ap (λ n. map (row_value m.empty m.op m.lifted ds rows k) (range_with_len 0 n) ++ drop n xs) is_v
    ∙ sym (full_cells m.empty means k room.0 xs fits)
