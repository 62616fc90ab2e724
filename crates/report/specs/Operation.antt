-- How an operation is written (`op_text`): the command, without who gave it, in the spelling of
-- scripts.
-- Not modelled: that it is read back as the same operation.
-- From: own, the format of scripts, which this program reads.
-- Example: `add 203.0.113.0/24 via 192.0.2.1 path 65001 65002 origin igp`.
use Rattle.std.specs.Prelude.{ℕ, Bool, List, [], ◌∷◌, ◌++◌, codes, decimal, if◌then◌else◌}
use Rattle.std.specs.List.{flat_map}
use Rattle.bits_ip.specs.Text.{addr_text, net_text, v4_text}
use Rattle.attrs.specs.Text.{origin_text, optional_text, list_text, community_text}
use Rattle.import_core.specs.declared.operation.Op.{Op}
use Rattle.import_core.specs.declared.operation.Op.TheVariants.{Start, SessionUp, Add, Del, SessionDown, Disable, Enable, ReloadIn, ReloadOut, Reload}
use Rattle.import_core.specs.declared.step.Done.{Done}

-- the command in the spelling of scripts
abbrev pub op_text : Op → List ℕ
op_text Start = codes "start"
op_text (SessionUp id) = codes "open " ++ v4_text id
op_text (Add net given) =
    codes "add " ++ net_text net ++ codes " via " ++ addr_text given.gw
    ++ codes " path" ++ flat_map (λ n. 32 ∷ decimal n) given.path
    ++ codes " origin " ++ origin_text given.origin
    ++ optional_text (codes " med ") decimal given.med
    ++ optional_text (codes " lp ") decimal given.lp
    ++ optional_text (codes " igp ") decimal given.igp
    ++ list_text (codes " com") community_text given.coms
op_text (Del net) = codes "del " ++ net_text net
op_text SessionDown = codes "close"
op_text Disable = codes "disable"
op_text Enable = codes "enable"
op_text ReloadIn = codes "reload in"
op_text ReloadOut = codes "reload out"
op_text Reload = codes "reload"

abbrev pub over_text : Bool → List ℕ
over_text over = if over then codes " !limit" else []

-- the same, marked where a route was over the limit
abbrev pub done_text : Done → List ℕ
done_text done = op_text done.op ++ over_text done.over
