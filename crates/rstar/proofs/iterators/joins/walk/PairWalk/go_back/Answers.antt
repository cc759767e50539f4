use Rattle.std.proofs.Common.{◌∷◌, ◌++◌, [], ◌∙◌, ap, sym, refl, arith, append-nil, ◌≡◌, ◌+◌}
use Rattle.rstar.specs.inside.PairWalks.{frames_of, opens_from_frames}
use Rattle.rstar.specs.Joins.{meets_by}
use Rattle.rstar.proofs.joining.PairWalks.{frames-along, idle-pairs, move-drop, passes}
use Rattle.rstar.proofs.iterators.joins.walk.PairWalk.go_back.Goals as goal

pub returns-in_default : goal.returns-in_default
returns-in_default g c =
    let meets = meets_by g.T.Cover.Merges.boxes g.U.Meets.seen in let left_box = g.T.Covered.object.box_of in
    let right_box = g.U.Covered.object.box_of in let self = c.args.self.now in let none = c.in_default.ensures.none in
    let same : frames_of self ≡ c.pop.new.self.items ++ self.frame ∷ [] = ap (λ l. l ++ self.frame ∷ []) (none.0 ∙ sym none.1) in
    let opens = ap (opens_from_frames meets left_box right_box) same in
    record {
      on = record {
        walk = frames-along meets left_box right_box _ _ (ap (λ n. n + 1) (sym c.pop.ensures.capacity)) _ _ same c.requires.walk;
        room = c.pop.ensures.capacity;
        count = λ all h. record { count = h.count; counted = h.counted; whole = omega (arith, h.whole, opens) };
      };
      given = idle-pairs meets left_box right_box self (record { nothing = c.requires.none; bare = none.0 });
      nearer = tt;
      over = record { nothing = c.requires.none; bare = none.1 };
    }

pub returns : goal.returns
returns g c =
    let self = c.args.self.now in let frames = c.pop.new.self.items ++ c.in-Some.frame ∷ [] in
    let was : frames_of self ≡ frames ++ self.frame ∷ [] = ap (λ l. l ++ self.frame ∷ []) c.in-Some.ensures.some in
    let move = move-drop (meets_by g.T.Cover.Merges.boxes g.U.Meets.seen) g.T.Covered.object.box_of g.U.Covered.object.box_of self.frame c.requires.none in
    passes _ _ _ move frames self _ was (sym (append-nil frames)) c.pop.ensures.capacity (λ n h. omega (arith, h)) c.requires.walk refl
