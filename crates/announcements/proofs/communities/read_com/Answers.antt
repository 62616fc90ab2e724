use Rattle.std.proofs.Common.{◌≡◌, sym, ◌∙◌, []}
use Rattle.std.proofs.lemmas.Bool.{false≢true}
use Rattle.text.specs.Lines.{words_of}
use Rattle.announcements.proofs.CommunityWords.{read_coms}
use Rattle.announcements.proofs.communities.read_com.Goals as goal

pub returns : goal.returns
returns c =
    let filled : words_of c.in-Some.words.now ≡ [] → ⊥ = λ none. false≢true (sym c.if-is_end-2.false ∙ c.is_end-2.ensures.1 none) in
    read_coms (words_of c.args.rest.now) (words_of c.in-Some.words.now) c.read_communities.result c.in-Some.ensures.word filled c.read_communities.ensures
