use Rattle.std.proofs.Common.{◌≡◌, sym, subst, IfSome}
use Rattle.std.specs.List.Sorted.{IsPermutation}
use Rattle.std.proofs.lemmas.List.Sorted.{IsPermutation-trans}
use Rattle.rstar.specs.Shown.{shown_root}
use Rattle.rstar.specs.Trees.{root_of}
use Rattle.rstar.proofs.storing.Written.{whole_points}
use Rattle.rstar_run.proofs.Packing.{unpack_refused, spells_input}
use Rattle.rstar_run.proofs.stored.unpacked.Goals as goal

pub returns-in_err-tree : goal.returns-in_err-tree
returns-in_err-tree g c =
    let all = subst (λ read. IfSome (g.R.Read.remaining c.args.input) (λ bytes. read ≡ bytes)) (sym c.deref.ensures.value) c.in_ok-bytes.ensures.all in
    unpack_refused _ c.deref.result.now all c.in_err-tree.field-0.0 c.in_err-tree.ensures.fault c.in_err-tree.ensures.none c.from_residual-in_err-tree.result c.from_residual-in_err-tree.ensures.1

pub returns : goal.returns
returns g c =
    let all = subst (λ read. IfSome (g.R.Read.remaining c.args.input) (λ bytes. read ≡ bytes)) (sym c.deref.ensures.value) c.in_ok-bytes.ensures.all in
    let tree = c.in_ok-tree.tree in
    let shows = whole_points _ tree c.in_ok-tree.ensures.whole in
    let given = subst (λ points. IsPermutation points c.in_ok-points.points.items) (sym shows) c.in_ok-points.ensures in (
      shown_root (root_of tree),
      spells_input _ c.deref.result.now all _ c.in_ok-tree.ensures.spelled,
      record { just_those = IsPermutation-trans _ _ _ given c.sort_unstable.ensures.permutation; ascending = c.sort_unstable.ensures.sorted },
    )
