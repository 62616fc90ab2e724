-- Which entries there are, and when words spell one. An entry's numbers are in their ranges, as its
-- types keep them. Not modelled: what memory an entry takes.
-- From: this project's own format.
use Rattle.std.specs.Prelude.{◌≡◌, ℕ, ◌<◌, ◌≤◌, ◌^◌, List, length, IfSome}
use Rattle.std.specs.List.{AllByRecursion}
use Rattle.bits_ip.specs.Address.{number_of, width_of}
use Rattle.bits_ip.specs.Prefix.{Net, IsPrefix}
use Rattle.bits_ip.specs.declared.address.Addr.{Addr}
use Rattle.attrs.specs.Clist.{IsClist}
use Rattle.attrs.specs.declared.attributes.Attrs.{Attrs}
use Rattle.attrs.specs.declared.route.Route.{Route}
use Rattle.attrs.specs.declared.route.Src.{Src}
use Rattle.attrs.specs.declared.journal.JEntry.{JEntry}
use Rattle.rec_words.specs.Spelling.{entry_words}

abbrev pub IsNumber : ℕ → Type 0
IsNumber n = n < 2 ^ 32

abbrev pub IsAddr : Addr → Type 0
IsAddr addr = number_of addr < 2 ^ width_of addr

pub record IsNet (net : Net) : Type 0 where
  pub addr : IsAddr net.addr
  pub prefix : IsPrefix net.addr net.len

pub record IsPath (path : List ℕ) : Type 0 where
  pub short : length path ≤ 120
  pub numbers : AllByRecursion IsNumber path

abbrev pub IsPair : ℕ × ℕ → Type 0
IsPair pair = (pair.0 < 2 ^ 16) × (pair.1 < 2 ^ 16)

pub record AreCommunities (coms : List (ℕ × ℕ)) : Type 0 where
  pub list : IsClist coms
  pub pairs : AllByRecursion IsPair coms

pub record IsSource (src : Src) : Type 0 where
  pub num : IsNumber src.num
  pub def_med : IsNumber src.def_med
  pub def_lp : IsNumber src.def_lp

-- the numbers that stand before the addresses
pub record AreHeadNumbers (r : Route) : Type 0 where
  pub src : IsSource r.src
  pub pref : IsNumber r.attrs.pref
  pub peer_id : IsNumber r.attrs.peer_id
  pub med : IfSome r.attrs.med IsNumber
  pub lp : IfSome r.attrs.lp IsNumber
  pub igp : IfSome r.attrs.igp IsNumber

pub record AreAddrs (a : Attrs) : Type 0 where
  pub gw : IfSome a.gw IsAddr
  pub sender : IfSome a.sender IsAddr
  pub next_hop : IfSome a.next_hop IsAddr

pub record IsRoute (r : Route) : Type 0 where
  pub numbers : AreHeadNumbers r
  pub addrs : AreAddrs r.attrs
  pub path : IsPath r.attrs.path
  pub coms : AreCommunities r.attrs.coms

pub record IsEntry (e : JEntry) : Type 0 where
  pub net : IsNet e.net
  pub num : IsNumber e.num
  pub new : IfSome e.new IsRoute
  pub best : IfSome e.best IsRoute

-- these are the words of the entry
pub record Spells (e : JEntry) (ws : List ℕ) : Type 0 where
  pub entry : IsEntry e
  pub words : ws ≡ entry_words e

-- these are the words of some entry
abbrev pub IsEntryWords : List ℕ → Type 0
IsEntryWords ws = (e : JEntry) × Spells e ws
