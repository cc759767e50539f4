use Rattle.std.proofs.Common.{◌∙◌, ◌+◌, ap, length, map, min, subst, sym}
use Rattle.std.proofs.lemmas.List.{length-map}
use Rattle.std.proofs.lemmas.Simd.{map-map}
use Rattle.rstar.specs.Lists.{AreFirstOf}
use Rattle.rstar_base.specs.Counts.{usize_max}
use Rattle.rstar_c.specs.Items.{distance_to, IsBefore}
use Rattle.rstar_c.specs.Put.{put_from}
use Rattle.rstar_c.proofs.Rows.{told-distances}
use Rattle.rstar_c.proofs.store.Store.put_nearest.Goals as goal

pub returns-clause-put : goal.returns-clause-put
returns-clause-put c =
    let near = c.in_ok-near.near.items in
    record {
      row = map (λ n. n.0.now) near;
      first = subst (λ items. AreFirstOf (IsBefore c.args.place.now) items c.args.most (map (λ n. n.0.now) near)) c.self.view_is c.in_ok-near.ensures.first;
      ids = c.put_neighbours.ensures.ids ∙ ap (λ ns. put_from c.args.from ns c.args.ids.now) (ap (map (λ n. n.0.now.1)) c.deref.ensures.value ∙ sym (map-map _ _ near));
      distances = c.put_neighbours.ensures.distances
          ∙ ap (λ ns. put_from c.args.from ns c.args.distances.now) (ap (map (λ n. n.1)) c.deref.ensures.value ∙ told-distances (distance_to c.args.place.now) near c.in_ok-near.ensures.distances);
      counted = c.put_neighbours.ensures.counted ∙ ap (λ n. min (c.args.from + n) usize_max) (ap length c.deref.ensures.value ∙ sym (length-map near _));
    }
