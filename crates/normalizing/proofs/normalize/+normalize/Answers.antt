use Rattle.std.proofs.lemmas.Result.{err_from_is_err_and, MatchResult-weaker}
use Rattle.normalizing.proofs.Making.{leaf_step, leaf_full, step_step, step_full, step_over, joint_step, joint_full, joint_left, joint_right, normal_there, put_as, normalized_as, large_as}
use Rattle.normalizing.proofs.normalize.+normalize.Goals as goal

pub returns-in_err-under-in-Stepped : goal.returns-in_err-under-in-Stepped
returns-in_err-under-in-Stepped t c =
    let p = err_from_is_err_and c.from_residual.result c.from_residual.ensures.1 in
    let same = normal_there _ c.requires.earlier _ _ c.requires.there _ c.in-Stepped.ensures in
    rw (p.1, p.2) (large_as same (step_over c.in-Stepped.step c.in_err-under-in-Stepped.ensures))

pub returns-in_err-before-in-Waiting : goal.returns-in_err-before-in-Waiting
returns-in_err-before-in-Waiting t c =
    let p = err_from_is_err_and c.from_residual-in_err-before-in-Waiting.result c.from_residual-in_err-before-in-Waiting.ensures.1 in
    let same = normal_there _ c.requires.earlier _ _ c.requires.there _ c.in-Waiting.ensures in
    rw (p.1, p.2) (large_as same (joint_left _ c.in-Waiting.joint (leaf_full c.in-Waiting.leaf c.in_err-before-in-Waiting.ensures)))

pub returns-in_err-under-in-Waiting : goal.returns-in_err-under-in-Waiting
returns-in_err-under-in-Waiting t c =
    let p = err_from_is_err_and c.from_residual-in_err-under-in-Waiting.result c.from_residual-in_err-under-in-Waiting.ensures.1 in
    let same = normal_there _ c.requires.earlier _ _ c.requires.there _ c.in-Waiting.ensures in
    rw (p.1, p.2) (large_as same (joint_right c.in-Waiting.joint (leaf_step c.in-Waiting.leaf (put_as c.from-in-Waiting.ensures c.in_ok-before-in-Waiting.ensures)) c.in_err-under-in-Waiting.ensures))

pub returns-in_err-first-in-Joined : goal.returns-in_err-first-in-Joined
returns-in_err-first-in-Joined t c =
    let p = err_from_is_err_and c.from_residual-in_err-first-in-Joined.result c.from_residual-in_err-first-in-Joined.ensures.1 in
    let same = normal_there _ c.requires.earlier _ _ c.requires.there _ c.in-Joined.ensures in
    rw (p.1, p.2) (large_as same (joint_left _ c.in-Joined.joint c.in_err-first-in-Joined.ensures))

pub returns-in_err-second-in-Joined : goal.returns-in_err-second-in-Joined
returns-in_err-second-in-Joined t c =
    let p = err_from_is_err_and c.from_residual-in_err-second-in-Joined.result c.from_residual-in_err-second-in-Joined.ensures.1 in
    let same = normal_there _ c.requires.earlier _ _ c.requires.there _ c.in-Joined.ensures in
    rw (p.1, p.2) (large_as same (joint_right c.in-Joined.joint c.in_ok-first-in-Joined.ensures c.in_err-second-in-Joined.ensures))

pub returns-in-Leaf : goal.returns-in-Leaf
returns-in-Leaf t c =
    let same = normal_there _ c.requires.earlier _ _ c.requires.there _ c.in-Leaf.ensures in
    MatchResult-weaker c.put.result c.put.ensures (λ i u. normalized_as same (leaf_step c.in-Leaf.leaf (put_as c.from.ensures u))) (λ e u. large_as same (leaf_full c.in-Leaf.leaf u))

pub returns-in-Turned : goal.returns-in-Turned
returns-in-Turned t c =
    let same = normal_there _ c.requires.earlier _ _ c.requires.there _ c.in-Turned.ensures in
    MatchResult-weaker c.normalize.result c.normalize.ensures (λ i u. normalized_as same (u)) (λ e u. large_as same (u))

pub returns-in_ok-under-in-Stepped : goal.returns-in_ok-under-in-Stepped
returns-in_ok-under-in-Stepped t c =
    let same = normal_there _ c.requires.earlier _ _ c.requires.there _ c.in-Stepped.ensures in
    MatchResult-weaker c.put-in-Stepped.result c.put-in-Stepped.ensures (λ i u. normalized_as same (step_step c.in-Stepped.step c.in_ok-under-in-Stepped.ensures (put_as c.of_step.ensures u))) (λ e u. large_as same (step_full c.in-Stepped.step c.in_ok-under-in-Stepped.ensures u))

pub returns-in_ok-under-in-Waiting : goal.returns-in_ok-under-in-Waiting
returns-in_ok-under-in-Waiting t c =
    let same = normal_there _ c.requires.earlier _ _ c.requires.there _ c.in-Waiting.ensures in
    MatchResult-weaker c.put-in-Waiting-2.result c.put-in-Waiting-2.ensures (λ i u. normalized_as same (joint_step c.in-Waiting.joint (leaf_step c.in-Waiting.leaf (put_as c.from-in-Waiting.ensures c.in_ok-before-in-Waiting.ensures)) c.in_ok-under-in-Waiting.ensures (put_as c.of_joint.ensures u))) (λ e u. large_as same (joint_full c.in-Waiting.joint (leaf_step c.in-Waiting.leaf (put_as c.from-in-Waiting.ensures c.in_ok-before-in-Waiting.ensures)) c.in_ok-under-in-Waiting.ensures u))

pub returns-in_ok-second-in-Joined : goal.returns-in_ok-second-in-Joined
returns-in_ok-second-in-Joined t c =
    let same = normal_there _ c.requires.earlier _ _ c.requires.there _ c.in-Joined.ensures in
    MatchResult-weaker c.put-in-Joined.result c.put-in-Joined.ensures (λ i u. normalized_as same (joint_step c.in-Joined.joint c.in_ok-first-in-Joined.ensures c.in_ok-second-in-Joined.ensures (put_as c.of_joint-in-Joined.ensures u))) (λ e u. large_as same (joint_full c.in-Joined.joint c.in_ok-first-in-Joined.ensures c.in_ok-second-in-Joined.ensures u))
