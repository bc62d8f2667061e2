use Rattle.std.proofs.Common.{sym, ◌∙◌, arith}
use Rattle.reorder.proofs.OrderLemmas.{is_ltov, length-vtol, order_permutes}
use Rattle.reorder.proofs.order.visual_order.Goals as goal

pub invert-requires : goal.invert-requires
invert-requires g c =
    let classes = g.C.Classes.all c.args.line.now in
    let size = length-vtol c.args.reordernsm classes c.args.levels.now c.visual_places.new.vtol c.visual_places.ensures.vtol in
    record {
      places = order_permutes c.args.reordernsm classes c.args.levels.now c.visual_places.new.vtol c.visual_places.ensures.vtol;
      len = c.requires.ltov ∙ sym size;
      within = omega (arith, size, c.requires.within);
    }

pub returns : goal.returns
returns g c =
    let classes = g.C.Classes.all c.args.line.now in
    let vtol = c.visual_places.new.vtol in
    let size = length-vtol c.args.reordernsm classes c.args.levels.now vtol c.visual_places.ensures.vtol in
    let inverse = rw size at c.invert.ensures.inverse in
    record {
      vtol = c.visual_places.ensures.vtol;
      ltov = is_ltov c.args.reordernsm classes c.args.levels.now vtol _ c.visual_places.ensures.vtol c.invert.ensures.ltov;
      within = λ k h. inverse.vtol_within k (omega (arith, h, size));
      inverse = inverse;
    }
