use Rattle.std.proofs.Common.{refl}
use Rattle.std.proofs.lemmas.Result.{err_from_is_err_and}
use Rattle.text.specs.Lines.{words_of}
use Rattle.announcements.proofs.Words.{form_more}
use Rattle.announcements.proofs.CommunityWords.{have_no_community, have_community_more, no_communities, all_communities}
use Rattle.announcements.proofs.communities.read_communities.Goals as goal

pub loop-word-init : goal.loop-word-init
loop-word-init c = have_no_community (words_of c.args.text.now) c.new-coms.result _ c.new-coms.ensures refl

pub returns-in_err-fit : goal.returns-in_err-fit
returns-in_err-fit c =
    let p = err_from_is_err_and c.from_residual.result c.from_residual.ensures.1 in
    rw (p.1, p.2) (form_more _ _ _
    (no_communities (words_of c.args.text.now) (words_of c.loop-word.rest.now) (words_of c.in-Some.after.now) c.loop-word.coms c.loop-word.fit c.in-Some.word.now c.loop-word.invariant c.in-Some.ensures.word)
    c.in_err-fit.ensures)

pub loop-word-preserved : goal.loop-word-preserved
loop-word-preserved c =
    have_community_more (words_of c.args.text.now) (words_of c.loop-word.rest.now) (words_of c.in-Some.after.now) c.loop-word.coms c.add_community.new.coms c.loop-word.fit c.in_ok-fit.fit
    c.in-Some.word.now c.loop-word.invariant c.in-Some.ensures.word c.in_ok-fit.ensures

pub returns : goal.returns
returns c =
    rw c.kept_coms.ensures (all_communities (words_of c.args.text.now) c.loop-word.coms c.loop-word.fit (words_of c.loop-word.rest.now) c.loop-word.invariant c.in_default.ensures.word)
