-- `place_in` meets its contract: a walk of its MIR by hand, two calls whose loans follow one another. Assumes `Logic`.
use Rattle.std.proofs.Common.{◌≡◌, ◌^◌, ◌<◌, length, slice_index_or, slice_set, List, [], ◌∷◌, refl, sym, ap, subst, w64, MutBor}
use Rattle.std.proofs.raw_atomic.Walks.{proved, leaves}
use mir.Syntax.{Fn, a_type, a_number, named}
use mir.MapTy.{inst_fn}
use mir.Val.{Val, vptr, vint}
use base.Logic.{SProp, id⊢, emp}
use base.Fml.{ftrue, flft}
use types.Kit.{‵, raw, ◌⊛◌, some, later, ◌$◌, ◌∵◌, !, qed, by, move, keep, drop, split, join, fjoin, rewrite, use0, use1, use2, await, pick, group}
use types.Run.{addr, stop, returns, enter, and_then, no_more}
use types.ByLocal.{alloc_all, pass_all, free_all, look_at, get, through, sets, lands_as}
use contract.Running.{tables}
use contract.Monad.{fact, fact_i}
use contract.BorrowLft.{◌⊑◌}
use prog.Memory.{size}
use denote.Array.{Array}
use denote.Laws.{Is, shows}
use denote.Builtin.{usize, RefMutOf}
use denote.Plain.{uint_vals, uint_Tells}
use denote.Ref.{MutRef, mut_vals, mut_Tells}
use denote.Slice.{MutSlice, mut_slice_vals}
use denote.Exit.{yes, no}
use denote.Follow.{follows, follows_then}
use denote.Param.{param, number, layout, layouts, ArrayAt}
use denote.Signature.{plain}
use denote.Steps.{nothing, heard, peeks, only}
use denote.Triple.Call.{calls_at}
use denote.Triple.Clauses.{lasts}
use denote.Triple.Spec.{triple_of}
use denote.Triple.Table.{framed}
use denote.Triple.Walked.{Stays, stay_dropped, walk_of, Goes-dropped}
use Rattle.rstar_base.specs.contracts.places.as_list as as_list
use Rattle.rstar_base.specs.contracts.places.place_at as place_at
use Rattle.rstar_base.proofs.places.as_list.Met.{met as as_list_met}
use Rattle.rstar_base.proofs.places.place_at.Met.{met as place_at_met}
use Rattle.rstar_base.specs.contracts.places.place_in as f
use Rattle.rstar_base.specs.contracts.places.place_in.Key.{name as #self}
use Rattle.rstar_base.proofs.places.place_in.Statement.{statement}
use Rattle.rstar_base.proofs.places.place_in.Code as code

pub place_in_spec : {M : Type 1} → statement M
place_in_spec 𝓤 𝓛 𝓜 𝓡 wired S n LS fits_n =
    let H = 𝓛.H in let 𝓣 = tables 𝓤 H 𝓜 𝓡 𝓡.env in let N = number n in
    let inst = layouts (a_type ∷ a_number ∷ []) (S, (N, tt)) in let fn : Fn = inst_fn inst code.function in
    let En = f.ended S N in let c = f.clauses S N 𝓛 𝓜.mem 𝓡.returns in let R = param 0 S in let Arr = ArrayAt R (param 1 N) in
    let s0 = RefMutOf {n = 3} (0 ∷ []) tt (plain (λ _. Arr)) (λ κs. tt) in let s1 = plain {n = 3} (λ _. usize) in
    let hs : Stays En.signature.params En.kept = (stay_dropped s0 no, (stay_dropped s1 yes, tt)) in
    proved 𝓛 En hs c 𝓜 𝓡 (Goes-dropped 𝓛 3 s0 no (λ κs x w. refl), (Goes-dropped 𝓛 3 s1 yes (λ κs x w. refl), tt)) (#self inst) fn (code.unfolded 𝓤 H 𝓜 𝓡 wired (S, (N, tt)))
    (λ κs. (mut_vals, (uint_vals w64, tt))) (λ κs. (mut_Tells (named 0) κs.0 Arr, (uint_Tells w64, tt))) (λ κs qs bounds a gh are.
    let κ0 = κs.0 in let κ1 = κs.1.0 in let κ2 = κs.1.1.0 in let array = a.0 in let index = a.1.0 in let b = array.ref_ptr.0 in let o = array.ref_ptr.1 in
    let z : (walk_of 𝓛 En hs c).Ghost = ((κs, qs, bounds, a, (mut_vals array, (uint_vals w64 index, tt))), gh) in
    let Post : Val → SProp 𝓤 = (walk_of 𝓛 En hs c).post z in
    let Fits' : Type 0 = size (layout Arr) < 2 ^ 63 in let Below : Type 0 = index < length array.now in
    let Run = MutSlice (named 0) κ0 R in let Out = MutRef (named 0) κ0 R in
    qed 𝓛 (((‵ (flft κ0 qs.0) ⊛ ‵ (flft κ1 qs.1.0) ⊛ ‵ (flft κ2 qs.1.1.0) ⊛ ‵ ftrue) ⊛
    ‵ ((MutRef (named 0) κ0 Arr).own_val array (mut_vals array)) ⊛ ‵ (usize.own_val index (uint_vals w64 index)) ⊛ ‵ ftrue)
    ∷ raw (fact 𝓤 (κ1 ⊑ S.lives)) ∷ raw (fact 𝓤 (κ2 ⊑ N.lives)) ∷ raw (fact 𝓤 Fits') ∷ raw (fact 𝓤 Below) ∷ []) ∵
    move ! (1 ∷ []) $ heard ! (κ1 ⊑ S.lives) (λ in_S. move ! (1 ∷ []) $ heard ! (κ2 ⊑ N.lives) (λ in_N. move ! (1 ∷ []) $ heard ! Fits' (λ fits. move ! (1 ∷ []) $ heard ! Below (λ is_below.
    split ! $ split ! $ move ! (1 ∷ []) $ split ! $ move ! (1 ∷ []) $ split ! $ move ! (4 ∷ []) $ split ! $ move ! (1 ∷ []) $ split ! $
    keep ! (2 ∷ 6 ∷ 5 ∷ 3 ∷ 0 ∷ []) $
    -- [the array; the three tokens; the index]
    enter ! 𝓣.C 𝓣.Λ fn (vptr b o ∷ vint w64 index ∷ []) Post $ alloc_all ! (λ l. pass_all ! refl ((tt, tt), ((tt, record { fits = are.1.0.1 }), tt)) $
    sets ! (addr ! (through ! refl (stop !))) refl (tt, tt) $
    let Ga = triple_of 𝓛 (as_list.signature S N) (as_list.spec S N 𝓛 𝓜.mem 𝓡.returns) in
    let za : Ga.Ghost = ((κs, qs, bounds, (array, tt), (mut_vals array, tt)), tt) in
    nothing ! $ use0 𝓛 (raw (fact 𝓤 Fits')) (fact_i 𝓤 Fits' (emp 𝓤) fits) $ use0 𝓛 (raw (fact 𝓤 (κ2 ⊑ N.lives))) (fact_i 𝓤 (κ2 ⊑ N.lives) (emp 𝓤) in_N) $ use0 𝓛 (raw (fact 𝓤 (κ1 ⊑ S.lives))) (fact_i 𝓤 (κ1 ⊑ S.lives) (emp 𝓤) in_S) $ group ! 4 $
    nothing ! $ move ! (2 ∷ 0 ∷ []) $ join ! $ nothing ! $ move ! (3 ∷ 4 ∷ 5 ∷ 0 ∷ []) $ group ! 4 $ join ! $ join ! $
    use1 𝓛 (raw (Ga.pre za)) (id⊢ 𝓤 _) $
    calls_at ! (framed 𝓤 H 𝓜 𝓣) Ga (as_list_met 𝓤 𝓛 𝓜 𝓡 (code.calls-rstar_base::places::as_list 𝓡.env wired) S n LS fits_n) za (and_then ! (get ! refl) (no_more !)) (λ v1.
    use1 𝓛 (later (some (λ (r1 : MutBor (List S.Denot)). ((‵ (flft κ0 qs.0) ⊛ ‵ (flft κ1 qs.1.0) ⊛ ‵ (flft κ2 qs.1.1.0) ⊛ ‵ ftrue) ⊛ ‵ (Run.own_val r1 (v1 ∷ []))) ⊛
    some (λ (ws : _). ‵ (lasts (as_list.ended S N) za.0.0 za.0.3 ws) ⊛ ‵ (follows (Array R n) (Array R 0) array.ghost_name r1.ghost_name (λ w. w)) ⊛ raw (fact 𝓤 (r1.now ≡ array.now)))))) (id⊢ 𝓤 _) $
    await ! tt $ pick ! (λ r1. split ! $ split ! $ move ! (2 ∷ []) $ pick ! (λ ws1. split ! $ drop ! $ split ! $
    move ! (1 ∷ []) $ heard ! (r1.now ≡ array.now) (λ same1.
    move ! (2 ∷ []) $ peeks ! Run (Is Run) (shows 𝓛 Run) r1 (v1 ∷ []) (λ said1.
    rewrite ! 0 (λ (us : List Val). ‵ (Run.own_val r1 us)) said1.0.0 refl $ lands_as ! (ap only said1.0.0) refl (tt, (tt, (record { fits = said1.0.1.0 }, tt))) $
    -- [the list; what follows it; the tokens; the index]
    move ! (2 ∷ []) $ split ! $ move ! (1 ∷ []) $ split ! $ move ! (1 ∷ []) $ split ! $
    -- [t2; nothing; t1; t0; the list; what follows it; the index]
    nothing ! $ move ! (5 ∷ 7 ∷ 0 ∷ []) $ group ! 3 $ move ! (4 ∷ 3 ∷ 2 ∷ []) $ group ! 3 $ join ! $
    let Gp = triple_of 𝓛 (place_at.signature S) (place_at.spec S 𝓛 𝓜.mem 𝓡.returns) in
    let zp : Gp.Ghost = (((κ0, (κ1, tt)), (qs.0, (qs.1.0, tt)), bounds, (r1, (index, tt)), (mut_slice_vals r1, (uint_vals w64 index, tt))), tt) in
    let Below' : Type 0 = index < length r1.now in
    use0 𝓛 (raw (fact 𝓤 Below')) (fact_i 𝓤 Below' (emp 𝓤) (subst (λ (xs : List S.Denot). index < length xs) (sym same1) is_below)) $ use0 𝓛 (raw (fact 𝓤 (κ1 ⊑ S.lives))) (fact_i 𝓤 (κ1 ⊑ S.lives) (emp 𝓤) in_S) $ group ! 2 $
    move ! (1 ∷ 0 ∷ []) $ join ! $ use1 𝓛 (raw (Gp.pre zp)) (id⊢ 𝓤 _) $
    calls_at ! (framed 𝓤 H 𝓜 𝓣) Gp (place_at_met 𝓤 𝓛 𝓜 𝓡 (code.calls-rstar_base::places::place_at 𝓡.env wired) S LS) zp (and_then ! (get ! refl) (and_then ! (get ! refl) (no_more !))) (λ v.
    use1 𝓛 (later (some (λ (r : MutBor S.Denot). ((‵ (flft κ0 qs.0) ⊛ ‵ (flft κ1 qs.1.0) ⊛ ‵ ftrue) ⊛ ‵ (Out.own_val r (v ∷ []))) ⊛
    some (λ (ws : _). ‵ (lasts (place_at.ended S) zp.0.0 zp.0.3 ws) ⊛ ‵ (follows (Array R 0) R r1.ghost_name r.ghost_name (slice_set r1.now index)) ⊛ raw (fact 𝓤 (r.now ≡ slice_index_or r1.now index r.now)))))) (id⊢ 𝓤 _) $
    await ! tt $ pick ! (λ r. split ! $ split ! $ move ! (2 ∷ []) $ pick ! (λ ws. split ! $ drop ! $ split ! $
    move ! (1 ∷ []) $ heard ! (r.now ≡ slice_index_or r1.now index r.now) (λ same.
    move ! (2 ∷ []) $ peeks ! Out (Is Out) (shows 𝓛 Out) r (v ∷ []) (λ said.
    rewrite ! 0 (λ (us : List Val). ‵ (Out.own_val r us)) said.0 refl $ lands_as ! (ap only said.0) refl (tt, tt) $
    returns ! (look_at ! 0 refl) $ free_all ! refl $
    -- [the element; what follows it; two tokens; a token; what follows the list]
    move ! (4 ∷ 1 ∷ []) $ use2 𝓛 (‵ (follows (Array R n) R array.ghost_name r.ghost_name (slice_set r1.now index)))
    (follows_then 𝓛 (Array R n) (Array R 0) R (λ w. w) (slice_set r1.now index) array.ghost_name r1.ghost_name r.ghost_name) $
    rewrite ! 0 (λ (xs : List S.Denot). ‵ (follows (Array R n) R array.ghost_name r.ghost_name (slice_set xs index))) same1 refl $
    move ! (2 ∷ []) $ split ! $ move ! (1 ∷ []) $ split ! $ move ! (2 ∷ 0 ∷ 5 ∷ 1 ∷ []) $ group ! 4 $
    let Value : List S.Denot → Type 0 = λ xs. r.now ≡ slice_index_or xs index r.now in
    use0 𝓛 (raw (fact 𝓤 (Value array.now))) (fact_i 𝓤 (Value array.now) (emp 𝓤) (subst Value same1 same)) $ move ! (2 ∷ 0 ∷ []) $ join ! $
    nothing ! $ nothing ! $ fjoin ! $ nothing ! $ fjoin ! $ move ! (2 ∷ 0 ∷ 3 ∷ 1 ∷ []) $
    by ! (leaves 𝓛 En hs c z (vptr r.ref_ptr.0 r.ref_ptr.1) r (tt, (tt, tt)) (tt, (tt, tt)))))))))))))))))))
