use Rattle.std.proofs.Common.{◌^◌, ◌<◌, ◌≢◌, length, refl, ap, ◌∙◌, below_more, get_or-set_other, get_or-set_same, arith, pow_mono}
use Rattle.std.proofs.lemmas.List.{length-set}
use Rattle.shapes.specs.Views.{dims_of}
use Rattle.shapes.proofs.Held.{limits}
use Rattle.plans.specs.Views.{place_in}
use Rattle.runs.specs.Trees.{adds_in}
use Rattle.runs.proofs.Growing.{chunks_few, node_asks, table_adds, ups_are, periods_are, shares_are, climbing}
use Rattle.runs.proofs.tree.Tree.of.Goals as goal

pub bounds-adds-mask : goal.bounds-adds-mask
bounds-adds-mask c = let s = c.args.shape.now in (node_asks (dims_of s) c.args.places c.args.adds (limits s) c.requires.order c.requires.parents c.loop-mask.mask (omega arith)).0

pub of-requires : goal.of-requires
of-requires c = let s = c.args.shape.now in node_asks (dims_of s) c.args.places c.args.adds (limits s) c.requires.order c.requires.parents c.loop-mask.mask (omega arith)

pub bounds-nodes-mask : goal.bounds-nodes-mask
bounds-nodes-mask c = let s = c.args.shape.now in (node_asks (dims_of s) c.args.places c.args.adds (limits s) c.requires.order c.requires.parents c.loop-mask.mask (omega arith)).0

pub loop-mask-preserved : goal.loop-mask-preserved
loop-mask-preserved c =
    let s = c.args.shape.now in
    let small = (node_asks (dims_of s) c.args.places c.args.adds (limits s) c.requires.order c.requires.parents c.loop-mask.mask (omega arith)).0 in
    let lt : c.loop-mask.mask < length c.loop-mask.nodes = omega arith in (
      length-set c.loop-mask.nodes c.loop-mask.mask c.of.result ∙ c.loop-mask.invariant.0,
      below_more _ _ (λ k h. let ne : k ≢ c.loop-mask.mask = omega arith in rw get_or-set_other (c.loop-mask.invariant.1 k h)) (rw get_or-set_same c.of.ensures),
    )

pub invariant_of-result : goal.invariant_of-result
invariant_of-result c =
    let s = c.args.shape.now in
    let ds = dims_of s in
    record {
      few = (omega (arith, (limits s).few_dims), omega (arith, ap (λ k. 2 ^ k) c.dimensions-n.ensures, pow_mono (limits s).few_dims));
      few_chunks = omega (arith, chunks_few ds (limits s));
      all_adds = omega arith;
      all_nodes = c.loop-mask.invariant.0;
      climbs = climbing ds (place_in c.args.places) (adds_in c.args.adds) c.count_radices-chunks.result.each c.args.places c.args.adds c.loop-mask.nodes (limits s) c.requires.order c.requires.parents
          c.count_radices-chunks.ensures (λ i l. refl) (λ m l. table_adds (length ds) m c.args.adds (omega arith)) (λ m l. c.loop-mask.invariant.1 m (omega arith)) c.dimensions-n.result c.dimensions-n.ensures;
    }

pub returns : goal.returns
returns c =
    let s = c.args.shape.now in
    let ds = dims_of s in
    record {
      limits = limits s;
      order = c.requires.order;
      parents = c.requires.parents;
      dimensions = c.dimensions-n.ensures;
      total = c.total_chunks.ensures;
      chunks = c.count_radices-chunks.ensures;
      places = λ i l. refl;
      added = λ m l. table_adds (length ds) m c.args.adds (omega arith);
      ups = ups_are ds (place_in c.args.places) (adds_in c.args.adds) c.count_radices-chunks.result.each c.args.places c.args.adds c.loop-mask.nodes (limits s) c.requires.order c.requires.parents
          c.count_radices-chunks.ensures (λ i l. refl) (λ m l. table_adds (length ds) m c.args.adds (omega arith)) (λ m l. c.loop-mask.invariant.1 m (omega arith));
      periods = periods_are ds (place_in c.args.places) (adds_in c.args.adds) c.count_radices-chunks.result.each c.args.places c.args.adds c.loop-mask.nodes (limits s) c.requires.order c.requires.parents
          c.count_radices-chunks.ensures (λ i l. refl) (λ m l. table_adds (length ds) m c.args.adds (omega arith)) (λ m l. c.loop-mask.invariant.1 m (omega arith));
      shares = shares_are ds (place_in c.args.places) (adds_in c.args.adds) c.count_radices-chunks.result.each c.args.places c.args.adds c.loop-mask.nodes (limits s) c.requires.order c.requires.parents
          c.count_radices-chunks.ensures (λ i l. refl) (λ m l. table_adds (length ds) m c.args.adds (omega arith)) (λ m l. c.loop-mask.invariant.1 m (omega arith));
    }
