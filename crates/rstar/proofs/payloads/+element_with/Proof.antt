-- `element_with` meets its contract: a walk of its MIR by hand, by recursion on the depth. Assumes `Logic`.
use Rattle.std.proofs.Common.{◌≡◌, ℕ, ◌^◌, ◌<◌, length, List, [], ◌∷◌, refl, sym, ap, subst, w64, MutBor}
use lib.WfN.{lt-wf_rel}
use lib.NonEmpty.{one}
use mir.Syntax.{Fn, Ty, Lifetime, a_type, dcons, dnil, named, erased, mut, ty_ref, ty_param}
use mir.MapTy.{inst_fn}
use mir.Val.{Val, vptr, vint, has_ty, WT}
use lib.Dec.{T}
use native.Mathlib.Nat.{lt_trans}
use Rattle.std.proofs.raw_atomic.Walks.{leaves}
use Rattle.std.proofs.VecSteps.Shapes.{after}
use base.Logic.{SProp, id⊢, emp}
use base.Fml.{ftrue, flft}
use types.Kit.{fjoin, rewrite, by, ‵, raw, ◌⊛◌, some, later, at_ret, ◌$◌, ◌∵◌, !, qed, move, keep, drop, split, join, use0, use1, use2, await, pick, group}
use types.Run.{of_opd, bin, lit, addr, stop, first, branches, exec, returns, enter, and_then, no_more}
use types.ByLocal.{alloc_all, pass_all, free_all, look_at, get, through, is, sets, lands_as, lands_last, env}
use prog.Wp.{WpFn}
use contract.Running.{tables, tables_of}
use contract.Monad.{fact, fact_i}
use contract.BorrowLft.{◌⊑◌}
use sound.WpLaws.{WpFn-mono}
use denote.RattleType.{RattleType}
use denote.Laws.{Is, shows}
use denote.Builtin.{usize, RefMutOf, RefOf}
use denote.Plain.{uint_vals, uint_Tells, uint_Makes}
use denote.Ref.{MutRef, mut_vals, mut_Tells, ShrRef, shr_vals, shr_Tells, shr_copy}
use denote.Exit.{yes, no}
use denote.Follow.{follows, follows_then}
use denote.Param.{param, copied, bounded}
use denote.Param.Laws.{param_laws}
use denote.Signature.{plain}
use denote.Steps.{nothing, heard, peeks, owned, only}
use denote.Triple.Call.{calls_at, calls_at_last, calls_from_last}
use denote.Triple.Clauses.{lasts}
use denote.Triple.Cycle.{Stated, mutual_elim, measured, at_on}
use denote.Triple.Spec.{triple_of}
use denote.Triple.Table.{framed}
use denote.Triple.Walked.{Stays, stay_dropped, walk_of, walked_at, walk_meets_at, Goes-dropped}
use Rattle.rstar_base.specs.Points.{table}
use Rattle.rstar.specs.contracts.node.RTreeNode.{the_row as node_row}
use Rattle.rstar.specs.declared.node.RTreeNode.{RTreeNode, Leaf, Parent}
use Rattle.rstar.specs.declared.node.ParentNode.{ParentNode}
use Rattle.rstar.specs.contracts.node.ParentNode.{the_row as parent_row}
use Rattle.rstar.specs.Nodes.{layer_of}
use Rattle.rstar.specs.inside.WaysDown.{IsLeaf, IsParent, LendsLeaf, LendsParent, LendsChild, LendsElement, IsAt, child_at, way_to, with_parent, with_child, Leads, put_at}
use Rattle.rstar.proofs.visiting.WaysDown.{leaf_leads, leaf_put, leaf_at, Down, down}
use Rattle.rstar.specs.contracts.payloads.leaf_in as leaf
use Rattle.rstar.specs.contracts.payloads.parent_in as parent
use Rattle.rstar.specs.contracts.payloads.child_with as child
use Rattle.rstar.proofs.payloads.leaf_in.Met.{met as leaf_met}
use Rattle.rstar.proofs.payloads.parent_in.Met.{met as parent_met}
use Rattle.rstar.proofs.payloads.child_with.Met.{met as child_met}
use Rattle.rstar.specs.contracts.payloads.element_with as f
use Rattle.rstar.specs.contracts.payloads.element_with.Key.{name as #self}
use Rattle.rstar.proofs.payloads.+element_with.{statement}
use Rattle.rstar.proofs.payloads.+element_with.Code as code

fits_ref : (ℓ : Lifetime) (τ : Ty) (v : Val) (b o : ℕ) → v ≡ vptr b o → T (has_ty (ty_ref ℓ mut τ) v) × WT v
fits_ref ℓ τ v b o e = subst (λ (u : Val). T (has_ty (ty_ref ℓ mut τ) u) × WT u) (sym e) (tt, tt)

pub +element_with_spec : {M : Type 1} → statement M
unfolding tables_of
+element_with_spec 𝓤 𝓛 𝓜 𝓡 wired X E P S R LX LE LP LS LR copyS g0 d0 g1 d1 g2 d2 g3 d3 g4 d4 g5 d5 g6 d6 g7 d7 g8 d8 g9 d9 g10 d10 g11 d11 g12 d12 g13 d13 g14 d14 g15 d15 g16 d16 g17 d17 g18 d18 g19 d19 g20 d20 g21 d21 g22 d22 g23 d23 g24 d24 g25 d25 g26 d26 g27 d27 g28 d28 g29 d29 g30 d30 g31 d31 g32 d32 g33 d33 d34 d35 d36 d37 m0 m1 m2 m3 m4 m5 m6 m7 m8 m9 m10 m11 m12 m13 m14 m15 m16 m17 m18 m19 m20 m21 m22 m23 m24 m25 m26 m27 m28 m29 m30 m31 m32 m33 m34 m35 m36 m37 =
    let H = 𝓛.H in let 𝓣 = tables 𝓤 H 𝓜 𝓡 𝓡.env in
    let inst = bounded (a_type ∷ a_type ∷ a_type ∷ a_type ∷ a_type ∷ []) (X, (E, (P, (S, (R, tt))))) (dcons d0 (dcons d1 (dcons d2 (dcons d3 (dcons d4 (dcons d5 (dcons d6 (dcons d7 (dcons d8 (dcons d9 (dcons d10 (dcons d11 (dcons d12 (dcons d13 (dcons d14 (dcons d15 (dcons d16 (dcons d17 (dcons d18 (dcons d19 (dcons d20 (dcons d21 (dcons d22 (dcons d23 (dcons d24 (dcons d25 (dcons d26 (dcons d27 (dcons d28 (dcons d29 (dcons d30 (dcons d31 (dcons d32 (dcons d33 (dcons d34 (dcons d35 (dcons d36 (dcons d37 dnil)))))))))))))))))))))))))))))))))))))) in
    let fn : Fn = inst_fn inst code.element_with-function in
    let En = f.ended X E P S R g0 d0 g1 d1 g2 d2 g3 d3 g4 d4 g5 d5 g6 d6 g7 d7 g8 d8 g9 d9 g10 d10 g11 d11 g12 d12 g13 d13 g14 d14 g15 d15 g16 d16 g17 d17 g18 d18 g19 d19 g20 d20 g21 d21 g22 d22 g23 d23 g24 d24 g25 d25 g26 d26 g27 d27 g28 d28 g29 d29 g30 d30 g31 d31 g32 d32 g33 d33 d34 d35 d36 d37 in let S' = En.signature in
    let c = f.clauses X E P S R g0 d0 g1 d1 g2 d2 g3 d3 g4 d4 g5 d5 g6 d6 g7 d7 g8 d8 g9 d9 g10 d10 g11 d11 g12 d12 g13 d13 g14 d14 g15 d15 g16 d16 g17 d17 g18 d18 g19 d19 g20 d20 g21 d21 g22 d22 g23 d23 g24 d24 g25 d25 g26 d26 g27 d27 g28 d28 g29 d29 g30 d30 g31 d31 g32 d32 g33 d33 d34 d35 d36 d37 𝓛 𝓜.mem 𝓡.returns in
    let TX = param 0 X in let TE = param 1 E in let TP = param 2 P in let TS = copied 3 S in let TR = param 4 R in
    let Node : RattleType = node_row TX TE in
    let s0 = RefMutOf {n = 7} (0 ∷ []) tt (plain (λ _. Node)) (λ κs. tt) in let s1 = RefOf {n = 7} (1 ∷ []) tt (plain (λ _. TP)) (λ κs. tt) in let s2 = plain {n = 7} (λ _. usize) in
    let hs : Stays S'.params En.kept = (stay_dropped s0 no, (stay_dropped s1 yes, (stay_dropped s2 yes, tt))) in
    let spec = f.spec X E P S R g0 d0 g1 d1 g2 d2 g3 d3 g4 d4 g5 d5 g6 d6 g7 d7 g8 d8 g9 d9 g10 d10 g11 d11 g12 d12 g13 d13 g14 d14 g15 d15 g16 d16 g17 d17 g18 d18 g19 d19 g20 d20 g21 d21 g22 d22 g23 d23 g24 d24 g25 d25 g26 d26 g27 d27 g28 d28 g29 d29 g30 d30 g31 d31 g32 d32 g33 d33 d34 d35 d36 d37 𝓛 𝓜.mem 𝓡.returns in
    let G = triple_of 𝓛 S' spec in
    let μ : G.Ghost → ℕ = λ y. y.0.3.1.1.0 in
    let d : Stated 𝓤 = record { signature = S'; run = 𝓡.run (𝓡.env (#self inst)); spec = spec } in
    mutual_elim 𝓛 (one d) ◌<◌ lt-wf_rel.wf (measured 𝓛 d μ) (λ t below.
    at_on 𝓛 S' spec (WpFn 𝓤 H 𝓣.C 𝓣.Λ fn) (𝓡.run (𝓡.env (#self inst))) (code.element_with-unfolded 𝓤 H 𝓜 𝓡 wired (X, (E, (P, (S, (R, tt))))) d0 d1 d2 d3 d4 d5 d6 d7 d8 d9 d10 d11 d12 d13 d14 d15 d16 d17 d18 d19 d20 d21 d22 d23 d24 d25 d26 d27 d28 d29 d30 d31 d32 d33 d34 d35 d36 d37) μ t (λ y is_t.
    walk_meets_at 𝓛 En hs (Goes-dropped 𝓛 7 s0 no (λ κs x w. refl), (Goes-dropped 𝓛 7 s1 yes (λ κs x w. refl), (Goes-dropped 𝓛 7 s2 yes (λ κs x w. refl), tt))) c (WpFn 𝓤 H 𝓣.C 𝓣.Λ fn) (WpFn-mono 𝓤 H 𝓛.laws (tables_of 𝓤 H 𝓜 𝓣) fn) y
    (walked_at 𝓛 En hs c (WpFn 𝓤 H 𝓣.C 𝓣.Λ fn) y (mut_vals, (shr_vals, (uint_vals w64, tt))) (mut_Tells (named 0) y.0.0.0 Node, (shr_Tells (named 1) y.0.0.1.0 TP, (uint_Tells w64, tt))) (λ are.
    let κs = y.0.0 in let qs = y.0.1 in let a = y.0.3 in
    let κ0 = κs.0 in let κ1 = κs.1.0 in let κ2 = κs.1.1.0 in let κ3 = κs.1.1.1.0 in let κ4 = κs.1.1.1.1.0 in let κ5 = κs.1.1.1.1.1.0 in let κ6 = κs.1.1.1.1.1.1.0 in
    let q0 = qs.0 in let q1 = qs.1.0 in let q2 = qs.1.1.0 in let q3 = qs.1.1.1.0 in let q4 = qs.1.1.1.1.0 in let q5 = qs.1.1.1.1.1.0 in let q6 = qs.1.1.1.1.1.1.0 in
    let node = a.0 in let point = a.1.0 in let depth = a.1.1.0 in let b = node.ref_ptr.0 in let o = node.ref_ptr.1 in
    let z : (walk_of 𝓛 En hs c).Ghost = ((κs, qs, y.0.2, a, (mut_vals node, (shr_vals point, (uint_vals w64 depth, tt)))), tt) in
    let Post : Val → SProp 𝓤 = (walk_of 𝓛 En hs c).post z in
    let vs : List Val = vptr b o ∷ vptr point.ref_ptr.0 point.ref_ptr.1 ∷ vint w64 depth ∷ [] in
    let Out = MutRef (named 0) κ0 TX in let Point = ShrRef (named 1) κ1 TP in
    let way : ParentNode X.Denot E.Denot → ℕ = way_to g2.boxes g0.distances (table g6.DIMENSIONS (g6.coord point.now)) in
    let opened_node = layer_of node.now in
    let Φ : Type 0 = Leads way depth opened_node in
    qed 𝓛 (((‵ (flft κ0 q0) ⊛ ‵ (flft κ1 q1) ⊛ ‵ (flft κ2 q2) ⊛ ‵ (flft κ3 q3) ⊛ ‵ (flft κ4 q4) ⊛ ‵ (flft κ5 q5) ⊛ ‵ (flft κ6 q6) ⊛ ‵ ftrue) ⊛
    ‵ ((MutRef (named 0) κ0 Node).own_val node (mut_vals node)) ⊛ ‵ (Point.own_val point (shr_vals point)) ⊛ ‵ (usize.own_val depth (uint_vals w64 depth)) ⊛ ‵ ftrue)
    ∷ raw (fact 𝓤 (κ2 ⊑ X.lives)) ∷ raw (fact 𝓤 (κ3 ⊑ E.lives)) ∷ raw (fact 𝓤 (κ4 ⊑ P.lives)) ∷ raw (fact 𝓤 (κ5 ⊑ S.lives)) ∷ raw (fact 𝓤 (κ6 ⊑ R.lives)) ∷ raw (fact 𝓤 Φ) ∷ []) ∵
    move ! (1 ∷ []) $ heard ! (κ2 ⊑ X.lives) (λ in_X. move ! (1 ∷ []) $ heard ! (κ3 ⊑ E.lives) (λ in_E. move ! (1 ∷ []) $ heard ! (κ4 ⊑ P.lives) (λ in_P. move ! (1 ∷ []) $ heard ! (κ5 ⊑ S.lives) (λ in_S. move ! (1 ∷ []) $ heard ! (κ6 ⊑ R.lives) (λ in_R. move ! (1 ∷ []) $ heard ! Φ (λ leads.
    split ! $ split ! $ move ! (1 ∷ []) $ split ! $ move ! (1 ∷ []) $ split ! $ move ! (1 ∷ []) $ split ! $ move ! (1 ∷ []) $ split ! $ move ! (1 ∷ []) $ split ! $ move ! (1 ∷ []) $ split ! $ move ! (8 ∷ []) $ split ! $ move ! (1 ∷ []) $ split ! $
    keep ! (2 ∷ 0 ∷ 10 ∷ 9 ∷ 8 ∷ 7 ∷ 6 ∷ 5 ∷ 3 ∷ []) $
    -- [node; point; the seven tokens]
    enter ! 𝓣.C 𝓣.Λ fn vs Post $ alloc_all ! (λ l. pass_all ! refl ((tt, tt), ((tt, tt), ((tt, record { fits = are.1.1.0.1 }), tt))) $
    let L = env fn.locals l in
    sets ! (bin ! (get ! refl) (lit ! tt) tt) refl (tt, tt) $
    first ! $ branches ! (get ! refl)
    (λ at_end.
    sets ! (addr ! (through ! refl (stop !))) refl (tt, tt) $
    let Gl = triple_of 𝓛 (leaf.signature X E P S R) (leaf.spec X E P S R g1 d1 g2 d2 g3 d3 g4 d4 g5 d5 g6 d6 g7 d7 g8 d8 g9 d9 g10 d10 g11 d11 g12 d12 g13 d13 g14 d14 g15 d15 g16 d16 g17 d17 g18 d18 g19 d19 g20 d20 g21 d21 g22 d22 g23 d23 g24 d24 g25 d25 g26 d26 g27 d27 g28 d28 g29 d29 g30 d30 g31 d31 g32 d32 g33 d33 d34 d35 d36 d37 𝓛 𝓜.mem 𝓡.returns) in
    let zl : Gl.Ghost = (((κ0, (κ2, (κ3, (κ4, (κ5, (κ6, tt)))))), (q0, (q2, (q3, (q4, (q5, (q6, tt)))))), (y.0.2.0, tt), (node, tt), (mut_vals node, tt)), tt) in
    use0 𝓛 (raw (fact 𝓤 (IsLeaf opened_node))) (fact_i 𝓤 (IsLeaf opened_node) (emp 𝓤) (leaf_leads way depth opened_node at_end leads)) $
    use0 𝓛 (raw (fact 𝓤 (κ6 ⊑ R.lives))) (fact_i 𝓤 (κ6 ⊑ R.lives) (emp 𝓤) in_R) $ use0 𝓛 (raw (fact 𝓤 (κ5 ⊑ S.lives))) (fact_i 𝓤 (κ5 ⊑ S.lives) (emp 𝓤) in_S) $ use0 𝓛 (raw (fact 𝓤 (κ4 ⊑ P.lives))) (fact_i 𝓤 (κ4 ⊑ P.lives) (emp 𝓤) in_P) $ use0 𝓛 (raw (fact 𝓤 (κ3 ⊑ E.lives))) (fact_i 𝓤 (κ3 ⊑ E.lives) (emp 𝓤) in_E) $ use0 𝓛 (raw (fact 𝓤 (κ2 ⊑ X.lives))) (fact_i 𝓤 (κ2 ⊑ X.lives) (emp 𝓤) in_X) $ group ! 6 $
    nothing ! $ move ! (2 ∷ 0 ∷ []) $ join ! $ nothing ! $ move ! (4 ∷ 6 ∷ 7 ∷ 8 ∷ 9 ∷ 10 ∷ 0 ∷ []) $ group ! 7 $ join ! $ join ! $
    use1 𝓛 (raw (Gl.pre zl)) (id⊢ 𝓤 _) $
    calls_at_last ! (framed 𝓤 H 𝓜 𝓣) Gl (leaf_met 𝓤 𝓛 𝓜 𝓡 (code.calls-rstar::payloads::leaf_in 𝓡.env wired) X E P S R LX LE LP LS LR copyS g1 d1 g2 d2 g3 d3 g4 d4 g5 d5 g6 d6 g7 d7 g8 d8 g9 d9 g10 d10 g11 d11 g12 d12 g13 d13 g14 d14 g15 d15 g16 d16 g17 d17 g18 d18 g19 d19 g20 d20 g21 d21 g22 d22 g23 d23 g24 d24 g25 d25 g26 d26 g27 d27 g28 d28 g29 d29 g30 d30 g31 d31 g32 d32 g33 d33 d34 d35 d36 d37 m1 m2 m3 m4 m5 m6 m7 m8 m9 m10 m11 m12 m13 m14 m15 m16 m17 m18 m19 m20 m21 m22 m23 m24 m25 m26 m27 m28 m29 m30 m31 m32 m33 m34 m35 m36 m37) zl (and_then ! (get ! refl) (no_more !)) (λ v.
    use1 𝓛 (later (some (λ (r : MutBor X.Denot). ((‵ (flft κ0 q0) ⊛ ‵ (flft κ2 q2) ⊛ ‵ (flft κ3 q3) ⊛ ‵ (flft κ4 q4) ⊛ ‵ (flft κ5 q5) ⊛ ‵ (flft κ6 q6) ⊛ ‵ ftrue) ⊛ ‵ (Out.own_val r (v ∷ []))) ⊛
    some (λ (ws : _). ‵ (lasts (leaf.ended X E P S R g1 d1 g2 d2 g3 d3 g4 d4 g5 d5 g6 d6 g7 d7 g8 d8 g9 d9 g10 d10 g11 d11 g12 d12 g13 d13 g14 d14 g15 d15 g16 d16 g17 d17 g18 d18 g19 d19 g20 d20 g21 d21 g22 d22 g23 d23 g24 d24 g25 d25 g26 d26 g27 d27 g28 d28 g29 d29 g30 d30 g31 d31 g32 d32 g33 d33 d34 d35 d36 d37) zl.0.0 zl.0.3 ws) ⊛ ‵ (LendsLeaf TX TE node r) ⊛ raw (fact 𝓤 (Leaf r.now ≡ node.now)))))) (id⊢ 𝓤 _) $
    await ! tt $ pick ! (λ r. split ! $ split ! $ move ! (2 ∷ []) $ pick ! (λ ws. split ! $ drop ! $ split ! $ move ! (1 ∷ []) $ heard ! (Leaf r.now ≡ node.now) (λ same.
    let At : Type 0 = IsAt way depth opened_node r.now in
    move ! (2 ∷ []) $ peeks ! Out (Is Out) (shows 𝓛 Out) r (v ∷ []) (λ said. let e : v ≡ vptr r.ref_ptr.0 r.ref_ptr.1 = ap only said.0 in
    -- [the result; what follows it; six tokens; point; a token]
    lands_last ! refl (fits_ref erased (ty_param 0) v _ _ e) $
    exec ! 𝓣.C 𝓣.Λ L (after 2 fn.body) (at_ret L Post) $ sets ! (of_opd ! (get ! refl)) refl (fits_ref (named 0) (ty_param 0) v _ _ e) $
    returns ! (look_at ! 0 refl) $ free_all ! refl $
    rewrite ! 1 (λ (F : X.Denot → RTreeNode X.Denot E.Denot). ‵ (follows Node TX node.ghost_name r.ghost_name F)) (leaf_put way depth opened_node at_end) refl $
    keep ! (2 ∷ 0 ∷ 1 ∷ 4 ∷ []) $ split ! $ move ! (1 ∷ []) $ split ! $ move ! (1 ∷ []) $ split ! $ move ! (1 ∷ []) $ split ! $ move ! (1 ∷ []) $ split ! $ move ! (1 ∷ []) $ split ! $ move ! (6 ∷ 9 ∷ 5 ∷ 4 ∷ 3 ∷ 2 ∷ 0 ∷ 1 ∷ []) $ group ! 8 $
    use0 𝓛 (raw (fact 𝓤 At)) (fact_i 𝓤 At (emp 𝓤) (leaf_at way depth node.now r.now at_end same)) $ move ! (3 ∷ 0 ∷ []) $ join ! $ move ! (1 ∷ 2 ∷ 0 ∷ []) $
    nothing ! $ nothing ! $ fjoin ! $ nothing ! $ fjoin ! $ nothing ! $ fjoin ! $ move ! (1 ∷ 0 ∷ []) $
    by ! (leaves 𝓛 En hs c z v r (tt, (tt, (tt, tt))) (tt, (tt, (tt, tt))))))))))
    (λ inside.
    let D : Down way depth node.now = down way depth node.now inside leads in let m : ℕ = D.below in
    let fits : m < 2 ^ 64 = lt_trans D.less are.1.1.0.1 in
    let Row = parent_row TX TE in let In = MutRef (named 0) κ0 Row in let On = MutRef (named 0) κ0 Node in
    sets ! (addr ! (through ! refl (stop !))) refl (tt, tt) $
    let Gp = triple_of 𝓛 (parent.signature X E P S R) (parent.spec X E P S R g1 d1 g2 d2 g3 d3 g4 d4 g5 d5 g6 d6 g7 d7 g8 d8 g9 d9 g10 d10 g11 d11 g12 d12 g13 d13 g14 d14 g15 d15 g16 d16 g17 d17 g18 d18 g19 d19 g20 d20 g21 d21 g22 d22 g23 d23 g24 d24 g25 d25 g26 d26 g27 d27 g28 d28 g29 d29 g30 d30 g31 d31 g32 d32 g33 d33 d34 d35 d36 d37 𝓛 𝓜.mem 𝓡.returns) in
    let zp : Gp.Ghost = (((κ0, (κ2, (κ3, (κ4, (κ5, (κ6, tt)))))), (q0, (q2, (q3, (q4, (q5, (q6, tt)))))), (y.0.2.0, tt), (node, tt), (mut_vals node, tt)), tt) in
    use0 𝓛 (raw (fact 𝓤 (IsParent opened_node))) (fact_i 𝓤 (IsParent opened_node) (emp 𝓤) D.parent) $
    use0 𝓛 (raw (fact 𝓤 (κ6 ⊑ R.lives))) (fact_i 𝓤 (κ6 ⊑ R.lives) (emp 𝓤) in_R) $ use0 𝓛 (raw (fact 𝓤 (κ5 ⊑ S.lives))) (fact_i 𝓤 (κ5 ⊑ S.lives) (emp 𝓤) in_S) $ use0 𝓛 (raw (fact 𝓤 (κ4 ⊑ P.lives))) (fact_i 𝓤 (κ4 ⊑ P.lives) (emp 𝓤) in_P) $ use0 𝓛 (raw (fact 𝓤 (κ3 ⊑ E.lives))) (fact_i 𝓤 (κ3 ⊑ E.lives) (emp 𝓤) in_E) $ use0 𝓛 (raw (fact 𝓤 (κ2 ⊑ X.lives))) (fact_i 𝓤 (κ2 ⊑ X.lives) (emp 𝓤) in_X) $ group ! 6 $
    nothing ! $ move ! (2 ∷ 0 ∷ []) $ join ! $ nothing ! $ move ! (4 ∷ 6 ∷ 7 ∷ 8 ∷ 9 ∷ 10 ∷ 0 ∷ []) $ group ! 7 $ join ! $ join ! $
    use1 𝓛 (raw (Gp.pre zp)) (id⊢ 𝓤 _) $
    calls_at ! (framed 𝓤 H 𝓜 𝓣) Gp (parent_met 𝓤 𝓛 𝓜 𝓡 (code.calls-rstar::payloads::parent_in 𝓡.env wired) X E P S R LX LE LP LS LR copyS g1 d1 g2 d2 g3 d3 g4 d4 g5 d5 g6 d6 g7 d7 g8 d8 g9 d9 g10 d10 g11 d11 g12 d12 g13 d13 g14 d14 g15 d15 g16 d16 g17 d17 g18 d18 g19 d19 g20 d20 g21 d21 g22 d22 g23 d23 g24 d24 g25 d25 g26 d26 g27 d27 g28 d28 g29 d29 g30 d30 g31 d31 g32 d32 g33 d33 d34 d35 d36 d37 m1 m2 m3 m4 m5 m6 m7 m8 m9 m10 m11 m12 m13 m14 m15 m16 m17 m18 m19 m20 m21 m22 m23 m24 m25 m26 m27 m28 m29 m30 m31 m32 m33 m34 m35 m36 m37) zp (and_then ! (get ! refl) (no_more !)) (λ v1.
    use1 𝓛 (later (some (λ (r1 : MutBor (ParentNode X.Denot E.Denot)). ((‵ (flft κ0 q0) ⊛ ‵ (flft κ2 q2) ⊛ ‵ (flft κ3 q3) ⊛ ‵ (flft κ4 q4) ⊛ ‵ (flft κ5 q5) ⊛ ‵ (flft κ6 q6) ⊛ ‵ ftrue) ⊛ ‵ (In.own_val r1 (v1 ∷ []))) ⊛
    some (λ (ws : _). ‵ (lasts (parent.ended X E P S R g1 d1 g2 d2 g3 d3 g4 d4 g5 d5 g6 d6 g7 d7 g8 d8 g9 d9 g10 d10 g11 d11 g12 d12 g13 d13 g14 d14 g15 d15 g16 d16 g17 d17 g18 d18 g19 d19 g20 d20 g21 d21 g22 d22 g23 d23 g24 d24 g25 d25 g26 d26 g27 d27 g28 d28 g29 d29 g30 d30 g31 d31 g32 d32 g33 d33 d34 d35 d36 d37) zp.0.0 zp.0.3 ws) ⊛ ‵ (LendsParent TX TE node r1) ⊛ raw (fact 𝓤 (Parent r1.now ≡ node.now)))))) (id⊢ 𝓤 _) $
    await ! tt $ pick ! (λ r1. split ! $ split ! $ move ! (2 ∷ []) $ pick ! (λ ws1. split ! $ drop ! $ split ! $
    move ! (1 ∷ []) $ heard ! (Parent r1.now ≡ node.now) (λ same1.
    move ! (2 ∷ []) $ peeks ! In (Is In) (shows 𝓛 In) r1 (v1 ∷ []) (λ said1.
    rewrite ! 0 (λ (us : List Val). ‵ (In.own_val r1 us)) said1.0 refl $ lands_as ! (ap only said1.0) refl (tt, tt) $
    -- [the parent; what follows it; six tokens; point; a token]
    let place = way r1.now in
    move ! (2 ∷ []) $ split ! $ move ! (1 ∷ []) $ split ! $ move ! (1 ∷ []) $ split ! $ move ! (1 ∷ []) $ split ! $ move ! (1 ∷ []) $ split ! $ move ! (1 ∷ []) $ split ! $ move ! (9 ∷ []) $
    use1 𝓛 (‵ (Point.own_val point (shr_vals point)) ⊛ ‵ (Point.own_val point (shr_vals point))) ((shr_copy 𝓛 (named 1) κ1 TP (param_laws 2 P LP).shr_laws).twice point (shr_vals point)) $ split ! $
    nothing ! $ move ! (10 ∷ 1 ∷ 0 ∷ []) $ group ! 3 $ move ! (8 ∷ 10 ∷ 7 ∷ 6 ∷ 5 ∷ 4 ∷ 2 ∷ 3 ∷ []) $ group ! 8 $ join ! $
    let Gc = triple_of 𝓛 (child.signature X E P S R) (child.spec X E P S R g0 d0 g1 d1 g2 d2 g3 d3 g4 d4 g5 d5 g6 d6 g7 d7 g8 d8 g9 d9 g10 d10 g11 d11 g12 d12 g13 d13 g14 d14 g15 d15 g16 d16 g17 d17 g18 d18 g19 d19 g20 d20 g21 d21 g22 d22 g23 d23 g24 d24 g25 d25 g26 d26 g27 d27 g28 d28 g29 d29 g30 d30 g31 d31 g32 d32 g33 d33 d34 d35 d36 d37 𝓛 𝓜.mem 𝓡.returns) in
    let zc : Gc.Ghost = ((κs, qs, y.0.2, (r1, (point, tt)), (mut_vals r1, (shr_vals point, tt))), tt) in
    let Room : Type 0 = place < length r1.now.children.items in
    use0 𝓛 (raw (fact 𝓤 Room)) (fact_i 𝓤 Room (emp 𝓤) (D.has r1.now same1)) $
    use0 𝓛 (raw (fact 𝓤 (κ6 ⊑ R.lives))) (fact_i 𝓤 (κ6 ⊑ R.lives) (emp 𝓤) in_R) $ use0 𝓛 (raw (fact 𝓤 (κ5 ⊑ S.lives))) (fact_i 𝓤 (κ5 ⊑ S.lives) (emp 𝓤) in_S) $ use0 𝓛 (raw (fact 𝓤 (κ4 ⊑ P.lives))) (fact_i 𝓤 (κ4 ⊑ P.lives) (emp 𝓤) in_P) $ use0 𝓛 (raw (fact 𝓤 (κ3 ⊑ E.lives))) (fact_i 𝓤 (κ3 ⊑ E.lives) (emp 𝓤) in_E) $ use0 𝓛 (raw (fact 𝓤 (κ2 ⊑ X.lives))) (fact_i 𝓤 (κ2 ⊑ X.lives) (emp 𝓤) in_X) $ group ! 6 $
    move ! (1 ∷ 0 ∷ []) $ join ! $ use1 𝓛 (raw (Gc.pre zc)) (id⊢ 𝓤 _) $
    calls_at ! (framed 𝓤 H 𝓜 𝓣) Gc (child_met 𝓤 𝓛 𝓜 𝓡 (code.calls-rstar::payloads::child_with 𝓡.env wired) X E P S R LX LE LP LS LR copyS g0 d0 g1 d1 g2 d2 g3 d3 g4 d4 g5 d5 g6 d6 g7 d7 g8 d8 g9 d9 g10 d10 g11 d11 g12 d12 g13 d13 g14 d14 g15 d15 g16 d16 g17 d17 g18 d18 g19 d19 g20 d20 g21 d21 g22 d22 g23 d23 g24 d24 g25 d25 g26 d26 g27 d27 g28 d28 g29 d29 g30 d30 g31 d31 g32 d32 g33 d33 d34 d35 d36 d37 m0 m1 m2 m3 m4 m5 m6 m7 m8 m9 m10 m11 m12 m13 m14 m15 m16 m17 m18 m19 m20 m21 m22 m23 m24 m25 m26 m27 m28 m29 m30 m31 m32 m33 m34 m35 m36 m37) zc (and_then ! (get ! refl) (and_then ! (get ! refl) (no_more !))) (λ v2.
    let Same : RTreeNode X.Denot E.Denot → Type 0 = λ k. k ≡ child_at r1.now place in
    use1 𝓛 (later (some (λ (r2 : MutBor (RTreeNode X.Denot E.Denot)). ((‵ (flft κ0 q0) ⊛ ‵ (flft κ1 q1) ⊛ ‵ (flft κ2 q2) ⊛ ‵ (flft κ3 q3) ⊛ ‵ (flft κ4 q4) ⊛ ‵ (flft κ5 q5) ⊛ ‵ (flft κ6 q6) ⊛ ‵ ftrue) ⊛ ‵ (On.own_val r2 (v2 ∷ []))) ⊛
    some (λ (ws : _). ‵ (lasts (child.ended X E P S R g0 d0 g1 d1 g2 d2 g3 d3 g4 d4 g5 d5 g6 d6 g7 d7 g8 d8 g9 d9 g10 d10 g11 d11 g12 d12 g13 d13 g14 d14 g15 d15 g16 d16 g17 d17 g18 d18 g19 d19 g20 d20 g21 d21 g22 d22 g23 d23 g24 d24 g25 d25 g26 d26 g27 d27 g28 d28 g29 d29 g30 d30 g31 d31 g32 d32 g33 d33 d34 d35 d36 d37) zc.0.0 zc.0.3 ws) ⊛ ‵ (LendsChild TX TE r1 place r2) ⊛ raw (fact 𝓤 (Same r2.now)))))) (id⊢ 𝓤 _) $
    await ! tt $ pick ! (λ r2. split ! $ split ! $ move ! (2 ∷ []) $ pick ! (λ ws2. split ! $ drop ! $ split ! $
    move ! (1 ∷ []) $ heard ! (Same r2.now) (λ same2.
    move ! (2 ∷ []) $ peeks ! On (Is On) (shows 𝓛 On) r2 (v2 ∷ []) (λ said2.
    rewrite ! 0 (λ (us : List Val). ‵ (On.own_val r2 us)) said2.0 refl $ lands_as ! (ap only said2.0) refl (tt, tt) $
    -- [the child; what follows it; the tokens; point; what follows the parent]
    move ! (4 ∷ 1 ∷ []) $ use2 𝓛 (‵ (follows Node Node node.ghost_name r2.ghost_name (λ w. with_parent opened_node (with_child r1.now place w))))
    (follows_then 𝓛 Node Row Node (with_parent opened_node) (with_child r1.now place) node.ghost_name r1.ghost_name r2.ghost_name) $
    sets ! (is ! (bin ! (get ! refl) (lit ! tt) D.above_zero) (ap (λ (j : ℕ). vint w64 j) D.is)) refl (tt, record { fits = fits }) $
    owned ! usize (Is usize) (uint_Makes 𝓛 w64) m (uint_vals w64 m) (refl, fits) $ nothing ! $
    move ! (3 ∷ 5 ∷ 1 ∷ 0 ∷ []) $ group ! 4 $ move ! (2 ∷ 0 ∷ []) $ join ! $
    let zs : G.Ghost = ((κs, qs, y.0.2, (r2, (point, (m, tt))), (mut_vals r2, (shr_vals point, (uint_vals w64 m, tt)))), tt) in
    let Φ' : Type 0 = Leads way m (layer_of r2.now) in
    use0 𝓛 (raw (fact 𝓤 Φ')) (fact_i 𝓤 Φ' (emp 𝓤) (D.leads r1.now r2.now same1 same2)) $
    use0 𝓛 (raw (fact 𝓤 (κ6 ⊑ R.lives))) (fact_i 𝓤 (κ6 ⊑ R.lives) (emp 𝓤) in_R) $ use0 𝓛 (raw (fact 𝓤 (κ5 ⊑ S.lives))) (fact_i 𝓤 (κ5 ⊑ S.lives) (emp 𝓤) in_S) $ use0 𝓛 (raw (fact 𝓤 (κ4 ⊑ P.lives))) (fact_i 𝓤 (κ4 ⊑ P.lives) (emp 𝓤) in_P) $ use0 𝓛 (raw (fact 𝓤 (κ3 ⊑ E.lives))) (fact_i 𝓤 (κ3 ⊑ E.lives) (emp 𝓤) in_E) $ use0 𝓛 (raw (fact 𝓤 (κ2 ⊑ X.lives))) (fact_i 𝓤 (κ2 ⊑ X.lives) (emp 𝓤) in_X) $ group ! 6 $
    move ! (1 ∷ 0 ∷ []) $ join ! $ use1 𝓛 (raw (G.pre zs)) (id⊢ 𝓤 _) $
    calls_from_last ! (framed 𝓤 H 𝓜 𝓣) (raw (G.pre zs)) (G.args zs) (G.post zs) (below m (subst (λ (k : ℕ). m < k) is_t D.less) zs refl) (and_then ! (get ! refl) (and_then ! (get ! refl) (and_then ! (get ! refl) (no_more !)))) (λ v.
    use1 𝓛 (later (some (λ (r : MutBor X.Denot). ((‵ (flft κ0 q0) ⊛ ‵ (flft κ1 q1) ⊛ ‵ (flft κ2 q2) ⊛ ‵ (flft κ3 q3) ⊛ ‵ (flft κ4 q4) ⊛ ‵ (flft κ5 q5) ⊛ ‵ (flft κ6 q6) ⊛ ‵ ftrue) ⊛ ‵ (Out.own_val r (v ∷ []))) ⊛
    some (λ (ws : _). ‵ (lasts En zs.0.0 zs.0.3 ws) ⊛ ‵ (LendsElement TX TE way r2 m r) ⊛ raw (fact 𝓤 (IsAt way m (layer_of r2.now) r.now)))))) (id⊢ 𝓤 _) $
    await ! tt $ pick ! (λ r. split ! $ split ! $ move ! (2 ∷ []) $ pick ! (λ ws. split ! $ drop ! $ split ! $ move ! (1 ∷ []) $ heard ! (IsAt way m (layer_of r2.now) r.now) (λ below_at.
    let At : Type 0 = IsAt way depth opened_node r.now in
    move ! (2 ∷ []) $ peeks ! Out (Is Out) (shows 𝓛 Out) r (v ∷ []) (λ said. let e : v ≡ vptr r.ref_ptr.0 r.ref_ptr.1 = ap only said.0 in
    -- [the result; what follows it; the tokens; what follows the child]
    lands_last ! refl (fits_ref erased (ty_param 0) v _ _ e) $
    exec ! 𝓣.C 𝓣.Λ L (after 2 fn.body) (at_ret L Post) $ sets ! (of_opd ! (get ! refl)) refl (fits_ref (named 0) (ty_param 0) v _ _ e) $
    returns ! (look_at ! 0 refl) $ free_all ! refl $
    let put = put_at way m (layer_of r2.now) in
    move ! (3 ∷ 1 ∷ []) $ use2 𝓛 (‵ (follows Node TX node.ghost_name r.ghost_name (λ u. with_parent opened_node (with_child r1.now place (put u)))))
    (follows_then 𝓛 Node Node TX (λ w. with_parent opened_node (with_child r1.now place w)) put node.ghost_name r2.ghost_name r.ghost_name) $
    rewrite ! 0 (λ (F : X.Denot → RTreeNode X.Denot E.Denot). ‵ (follows Node TX node.ghost_name r.ghost_name F)) (D.put r1.now r2.now same1 same2) refl $
    use0 𝓛 (raw (fact 𝓤 At)) (fact_i 𝓤 At (emp 𝓤) (D.at r1.now r2.now r.now same1 same2 below_at)) $ move ! (1 ∷ 0 ∷ []) $ join ! $
    nothing ! $ nothing ! $ fjoin ! $ nothing ! $ fjoin ! $ nothing ! $ fjoin ! $ move ! (3 ∷ 0 ∷ 2 ∷ 1 ∷ []) $
    by ! (leaves 𝓛 En hs c z v r (tt, (tt, (tt, tt))) (tt, (tt, (tt, tt)))))))))))))))))))))))))))))))
