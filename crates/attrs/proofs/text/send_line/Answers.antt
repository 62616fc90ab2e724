use Rattle.std.proofs.Common.{◌≡◌, ◌++◌, ◌∷◌, ℕ, List, codes, decimal, append_assoc, ◌∙◌}
use Rattle.std.proofs.lemmas.Result.{on_ok_weaker}
use Rattle.bits_ip.specs.Text.{addr_text}
use Rattle.attrs.specs.Text.{attrs_text, community_text, dest_text, kind_text, list_text, optional_text, origin_text, peer_text}
use Rattle.attrs.specs.Gather.{gathered}
use Rattle.attrs.specs.declared.attributes.Attrs.{Attrs}
use Rattle.attrs.proofs.text.send_line.Goals as goal

-- five groups of pieces, appended one after another
joined :
    (b w n k d p q r s t u v x y z b1 b2 b3 b4 b5 : List ℕ)
    → b1 ≡ b ++ w ++ n ++ k ++ d → b2 ≡ b1 ++ p ++ q ++ r → b3 ≡ b2 ++ s ++ t ++ u → b4 ≡ b3 ++ v ++ x ++ y → b5 ≡ b4 ++ z
    → b5 ≡ b ++ (w ++ n ++ k ++ d ++ p ++ q ++ r ++ s ++ t ++ u ++ v ++ x ++ y ++ z)
joined b w n k d p q r s t u v x y z b1 b2 b3 b4 b5 e1 e2 e3 e4 e5 = rw (e5, e4, e3, e2, e1) (simp append_assoc)

-- the groups of a line
line :
    (a : Attrs) (b b1 b2 b3 b4 b5 : List ℕ)
    → b1 ≡ b ++ codes "pref " ++ decimal a.pref ++ 32 ∷ kind_text a.kind ++ 32 ∷ dest_text a.dest
    → b2 ≡ b1 ++ optional_text (codes " gw ") addr_text a.gw ++ optional_text (codes " from ") addr_text a.sender ++ peer_text a.kind a.peer_id a.ebgp
    → b3 ≡ b2 ++ list_text (codes " path") decimal a.path ++ optional_text (codes " origin ") origin_text a.origin ++ optional_text (codes " nh ") addr_text a.next_hop
    → b4 ≡ b3 ++ optional_text (codes " med ") decimal a.med ++ optional_text (codes " lp ") decimal a.lp ++ optional_text (codes " igp ") decimal a.igp
    → b5 ≡ b4 ++ list_text (codes " com") community_text a.coms
    → b5 ≡ b ++ attrs_text a
line a b =
    joined
    b (codes "pref ") (decimal a.pref) (32 ∷ kind_text a.kind) (32 ∷ dest_text a.dest)
    (optional_text (codes " gw ") addr_text a.gw) (optional_text (codes " from ") addr_text a.sender) (peer_text a.kind a.peer_id a.ebgp)
    (list_text (codes " path") decimal a.path) (optional_text (codes " origin ") origin_text a.origin) (optional_text (codes " nh ") addr_text a.next_hop)
    (optional_text (codes " med ") decimal a.med) (optional_text (codes " lp ") decimal a.lp) (optional_text (codes " igp ") decimal a.igp)
    (list_text (codes " com") community_text a.coms)

pub returns-clause-written : goal.returns-clause-written
returns-clause-written g c =
    on_ok_weaker c.send.result
    (λ e. e ∙ line c.args.attrs.now (gathered g.W.TextOut.written c.args.text.now) _ _ _ _ _ c.in_ok-write_head.ensures.written c.in_ok-write_neighbour.ensures.written c.in_ok-write_way.ensures.written c.in_ok-write_metrics.ensures.written c.in_ok-write_communities.ensures.written)
    c.send.ensures.sent

pub returns-in_err-write_neighbour-clause-kept : goal.returns-in_err-write_neighbour-clause-kept
returns-in_err-write_neighbour-clause-kept g c = λ first so_far.
    c.write_neighbour.ensures.kept first (c.in_ok-write_head.ensures.kept first so_far)

pub returns-in_err-write_way-clause-kept : goal.returns-in_err-write_way-clause-kept
returns-in_err-write_way-clause-kept g c = λ first so_far.
    c.write_way.ensures.kept first (c.in_ok-write_neighbour.ensures.kept first (c.in_ok-write_head.ensures.kept first so_far))

pub returns-in_err-write_metrics-clause-kept : goal.returns-in_err-write_metrics-clause-kept
returns-in_err-write_metrics-clause-kept g c = λ first so_far.
    c.write_metrics.ensures.kept first
    (c.in_ok-write_way.ensures.kept first (c.in_ok-write_neighbour.ensures.kept first (c.in_ok-write_head.ensures.kept first so_far)))

pub returns-in_err-write_communities-clause-kept :
    goal.returns-in_err-write_communities-clause-kept
returns-in_err-write_communities-clause-kept g c = λ first so_far.
    c.write_communities.ensures.kept first
    (c.in_ok-write_metrics.ensures.kept first
    (c.in_ok-write_way.ensures.kept first (c.in_ok-write_neighbour.ensures.kept first (c.in_ok-write_head.ensures.kept first so_far))))

pub returns-clause-kept : goal.returns-clause-kept
returns-clause-kept g c = λ first so_far.
    c.send.ensures.kept first
    (c.in_ok-write_communities.ensures.kept first
    (c.in_ok-write_metrics.ensures.kept first
    (c.in_ok-write_way.ensures.kept first (c.in_ok-write_neighbour.ensures.kept first (c.in_ok-write_head.ensures.kept first so_far)))))
