use Rattle.std.proofs.Common.{◌≡◌, ◌++◌, ◌∷◌, ℕ, List, codes, decimal, append_assoc}
use Rattle.std.specs.List.{flat_map}
use Rattle.std.proofs.lemmas.Result.{on_ok_weaker}
use Rattle.bits_ip.specs.Prefix.{Net}
use Rattle.bits_ip.specs.Text.{addr_text, net_text}
use Rattle.attrs.specs.Text.{community_text, list_text, optional_text, origin_text}
use Rattle.report.specs.Operation.{op_text}
use Rattle.import_core.specs.declared.operation.Given.{Given}
use Rattle.import_core.specs.declared.operation.Op.TheVariants.{Add}
use Rattle.report.proofs.operation.write_add.Goals as goal

-- four groups of pieces, appended one after another
joined :
    (b a n v g p q o r x y z w b1 b2 b3 b4 : List ℕ)
    → b1 ≡ b ++ a ++ n ++ v ++ g → b2 ≡ b1 ++ p ++ q ++ o ++ r → b3 ≡ b2 ++ x ++ y ++ z → b4 ≡ b3 ++ w
    → b4 ≡ b ++ (a ++ n ++ v ++ g ++ p ++ q ++ o ++ r ++ x ++ y ++ z ++ w)
joined b a n v g p q o r x y z w b1 b2 b3 b4 e1 e2 e3 e4 = rw (e4, e3, e2, e1) (simp append_assoc)

-- the groups of an operation
grouped :
    (net : Net) (given : Given) (b b1 b2 b3 b4 : List ℕ)
    → b1 ≡ b ++ codes "add " ++ net_text net ++ codes " via " ++ addr_text given.gw
    → b2 ≡ b1 ++ codes " path" ++ flat_map (λ (n : ℕ). 32 ∷ decimal n) given.path ++ codes " origin " ++ origin_text given.origin
    → b3 ≡ b2 ++ optional_text (codes " med ") decimal given.med ++ optional_text (codes " lp ") decimal given.lp ++ optional_text (codes " igp ") decimal given.igp
    → b4 ≡ b3 ++ list_text (codes " com") community_text given.coms
    → b4 ≡ b ++ op_text (Add net given)
grouped net given b =
    joined
    b (codes "add ") (net_text net) (codes " via ") (addr_text given.gw)
    (codes " path") (flat_map (λ (n : ℕ). 32 ∷ decimal n) given.path) (codes " origin ") (origin_text given.origin)
    (optional_text (codes " med ") decimal given.med) (optional_text (codes " lp ") decimal given.lp) (optional_text (codes " igp ") decimal given.igp)
    (list_text (codes " com") community_text given.coms)

pub returns-clause-written : goal.returns-clause-written
returns-clause-written g c =
    on_ok_weaker c.write_communities.result
    (grouped c.args.net.now c.args.given.now (g.W.TextOut.written c.args.out.now) _ _ _ _ c.in_ok-write_gateway.ensures.written c.in_ok-write_way.ensures.written c.in_ok-write_metrics.ensures.written)
    c.write_communities.ensures.written
