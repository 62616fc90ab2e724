-- What constants, functions and filters of a configuration come to (`constant`, `doing`, `behind`),
-- and what a filter says of a route (`verdict`, `verdict_where`).
-- From: BIRD User's Guide, "Filters"; where the guide is silent, own.
-- Example: the three filters of Worked, by the law `worked_filters`.
use Rattle.std.specs.Prelude.{ℕ, true, false, List, [], ◌∷◌, ◌++◌, map, Option, Some, None, Result, Ok, Err, take, drop}
use Rattle.bits_ip.specs.Prefix.{Net}
use Rattle.attrs.specs.declared.attributes.Attrs.{Attrs}
use Rattle.attrs.specs.declared.judge.FilterFault.TheVariants as faults
use Rattle.attrs.specs.declared.judge.Verdict.{Verdict}
use Rattle.attrs.specs.declared.judge.Verdict.TheVariants as verdicts
use Rattle.attrs.specs.declared.route.Route.{Route}
use Rattle.conf_ast.specs.Names.{name_bytes}
use Rattle.conf_ast.specs.declared.filters.Parameter.{Parameter}
use Rattle.conf_ast.specs.Configurations as conf
use Rattle.conf_ast.specs.Filters.{Expression, If, Accept, Reject, Statements, NoStatements, AndStatements}
use Rattle.filt_meaning.specs.declared.value.Failure.{Failure}
use Rattle.filt_meaning.specs.Operators.{and_then, pair_of}
use Rattle.filt_meaning.specs.Values.{Val, VInt, VBool, VIp, VPrefix, VString}
use Rattle.filt_meaning.specs.Flow.{AtEnd, Returned, Accepted, Rejected, Faulted, Stuck, Flow, Done, Stopped, Frame}
use Rattle.filt_meaning.specs.Items.{number, set_of, mask_of}
use Rattle.filt_meaning.specs.Meaning.{all_declared, defaults, within, acts}
use Rattle.filt_meaning.specs.Names.{Around, Context, Doing, constant_of, there}

-- ---- constants

-- the value of a constant, which may name those before it
abbrev pub constant : Context → conf.Value → Result Val Failure
constant c (conf.NumberValue at n) = Ok (VInt n)
constant c (conf.TextValue q) = Ok (VString (take q.len (drop q.start c.text)))
constant c (conf.AddressValue a) = Ok (VIp a.addr)
constant c (conf.PrefixValue at net) = Ok (VPrefix net)
constant c (conf.TrueValue at) = Ok (VBool true)
constant c (conf.FalseValue at) = Ok (VBool false)
constant c (conf.ValueOf name) = there (constant_of c name)
constant c (conf.PairValue at a b) =
    and_then (number c a) (λ n. and_then (number c b) (λ m. pair_of (VInt n) (VInt m)))
constant c (conf.SetValue at items) = set_of c items
constant c (conf.MaskValue at items) = mask_of c items

-- ---- functions

-- the end of a function, which is to give something or isn't
abbrev pub at_end : {A : Type 0} → Option A → Attrs → Flow (Option Val)
at_end None attrs = Done None attrs
at_end (Some t) attrs = Stopped (Faulted faults.NoValue) attrs

-- What a function gives of what its body comes to: `return` ends the function alone, and what ends
-- the filter goes on outwards.
abbrev pub given_by : {A : Type 0} → Option A → Flow Frame → Flow (Option Val)
given_by gives (Done vals attrs) = at_end gives attrs
given_by gives (Stopped AtEnd attrs) = at_end gives attrs
given_by gives (Stopped (Returned v) attrs) = Done (Some v) attrs
given_by gives (Stopped Accepted attrs) = Stopped Accepted attrs
given_by gives (Stopped Rejected attrs) = Stopped Rejected attrs
given_by gives (Stopped (Faulted fault) attrs) = Stopped (Faulted fault) attrs
given_by gives (Stopped Stuck attrs) = Stopped Stuck attrs

abbrev pub parameter_names : List ℕ → List Parameter → List (List ℕ)
parameter_names text parameters = map (λ (p : Parameter). name_bytes text p.name) parameters

-- what is seen where only these names are variables
abbrev pub with_parameters : Context → List (List ℕ) → Context
with_parameters c names = record {
  text = c.text;
  around = c.around;
  constants = c.constants;
  functions = c.functions;
  variables = names;
}

-- the statements of a function or a filter over the values of its parameters
abbrev pub body : Context → List (List ℕ) → Statements → Frame → Attrs → Flow Frame
body c names ss arguments attrs =
    let own = all_declared c.text ss in
    acts ss (within (with_parameters c names) own) (arguments ++ defaults own) attrs

-- what a function's statements come to, over its arguments
abbrev pub run_of : Context → conf.Routine → Frame → Attrs → Flow Frame
run_of c f arguments attrs =
    body c (parameter_names c.text f.parameters) f.body arguments attrs

-- what a function does with its arguments
abbrev pub doing : Context → conf.Routine → Doing
doing c f arguments attrs = given_by f.gives (run_of c f arguments attrs)

-- ---- the configuration before a filter

-- Constants and functions are seen behind their own statements. What has no value is refused, and
-- isn't seen.
abbrev pub with_constant : Context → List ℕ → Result Val Failure → Context
with_constant c name (Err failure) = c
with_constant c name (Ok v) = record {
  text = c.text;
  around = c.around;
  constants = c.constants ++ (name, v) ∷ [];
  functions = c.functions;
  variables = c.variables;
}

abbrev pub with_function : Context → List ℕ → Doing → Context
with_function c name f = record {
  text = c.text;
  around = c.around;
  constants = c.constants;
  functions = c.functions ++ (name, f) ∷ [];
  variables = c.variables;
}

abbrev pub behind_one : Context → conf.Declaration → Context
behind_one c (conf.RouterId a) = c
behind_one c conf.Log = c
behind_one c (conf.Define name v) = with_constant c (name_bytes c.text name) (constant c v)
behind_one c (conf.Table at family name) = c
behind_one c (conf.DefineFunction f) = with_function c (name_bytes c.text f.name) (doing c f)
behind_one c (conf.DefineFilter at name ss) = c
behind_one c (conf.Device name semicolon) = c
behind_one c (conf.Static p) = c
behind_one c (conf.Bgp p) = c
behind_one c (conf.Pipe p) = c

-- what is seen behind these statements
abbrev pub behind : Context → List conf.Declaration → Context
behind c [] = c
behind c (d ∷ ds) = behind (behind_one c d) ds

-- what is seen at the first statement of a text
abbrev pub at_start : List ℕ → Around → Context
at_start text around =
    record { text = text; around = around; constants = []; functions = []; variables = [] }

-- ---- filters

-- Where neither `accept` nor `reject` is reached the filter has no verdict, and rejects. A filter
-- gives no value, and none that was checked is stuck: there, too, it rejects.
abbrev pub verdict_of : Flow Frame → Verdict
verdict_of (Done vals attrs) = verdicts.Reject (Some faults.NoVerdict)
verdict_of (Stopped AtEnd attrs) = verdicts.Reject (Some faults.NoVerdict)
verdict_of (Stopped (Returned v) attrs) = verdicts.Reject None
verdict_of (Stopped Accepted attrs) = verdicts.Accept attrs
verdict_of (Stopped Rejected attrs) = verdicts.Reject None
verdict_of (Stopped (Faulted fault) attrs) = verdicts.Reject (Some fault)
verdict_of (Stopped Stuck attrs) = verdicts.Reject None

-- what the statements of a filter say of attributes
abbrev pub judged : Context → Statements → Attrs → Verdict
judged c ss attrs = verdict_of (body c [] ss [] attrs)

-- `where e` is the filter that accepts where `e` holds, and rejects elsewhere
abbrev pub filter_where : Expression → Statements
filter_where e = AndStatements (If e Accept) (AndStatements Reject NoStatements)

abbrev pub around_route : List (List ℕ) → Net → Route → Around
around_route protocols net route =
    record { net = net; number = route.src.num; protocols = protocols }

-- What a filter says of a route of a net: its text, the statements of the configuration before it,
-- the names of the protocols, by their numbers.
abbrev pub verdict :
    List ℕ → List conf.Declaration → List (List ℕ) → Statements → Net → Route → Verdict
verdict text before protocols ss net route =
    judged (behind (at_start text (around_route protocols net route)) before) ss route.attrs

-- ---- a filter with a text of its own

-- the same context over another text, as where a condition isn't in the configuration
abbrev pub of_text : Context → List ℕ → Context
of_text c text = record {
  text = text;
  around = c.around;
  constants = c.constants;
  functions = c.functions;
  variables = c.variables;
}

-- What a condition of its own text says of a route, behind the statements of a configuration.
abbrev pub verdict_where :
    List ℕ → List conf.Declaration → List (List ℕ) → (condition_text : List ℕ) → Expression
    → Net → Route → Verdict
verdict_where text before protocols condition_text e net route =
    judged (of_text (behind (at_start text (around_route protocols net route)) before)
    condition_text) (filter_where e) route.attrs
