-- The site of what an instruction does to memory.
use Rattle.std.specs.Prelude.{ℕ, ◌≡◌, Option}
use Rattle.pv_base.specs.declared.place.Site.{Site}
use Rattle.mem_image.specs.Calls.{Call, ReadWord, WriteWord, CopyRange, Fill, Make, Release, EndFrame, Reply}
use Rattle.seq_effects.specs.Script.{Script, Gives, Stops, Sizes, Asks}
use Rattle.turn_laws.specs.Events.{Event, Touches, Makes, Releases, Ends}

-- the event is of the instruction at this site; the end of an object has none
abbrev pub IsAt : Site → Event → Type 0
IsAt site (Touches a) = a.site ≡ site
IsAt site (Makes at kind name size) = at ≡ site
IsAt site (Releases at name) = at ≡ site
IsAt site (Ends name) = Unit {0}

abbrev pub CallsAt : Site → Call → Type 0
CallsAt site (ReadWord at slot from len) = at ≡ site
CallsAt site (WriteWord at slot to word) = at ≡ site
CallsAt site (CopyRange at to from len overlap) = at ≡ site
CallsAt site (Fill at to value len) = at ≡ site
CallsAt site (Make at kind size zeroed) = at ≡ site
CallsAt site (Release at pointer) = at ≡ site
CallsAt site (EndFrame names) = Unit {0}

-- every call of the tree is of the instruction at this site, whatever is replied
abbrev pub AsksAt : {A : Type 0} → Site → Script A → Type 0
AsksAt site (Gives a) = Unit {0}
AsksAt site (Stops t) = Unit {0}
AsksAt site (Sizes p k) = (size : Option ℕ) → AsksAt site (k size)
AsksAt site (Asks call k) = CallsAt site call × ((r : Reply) → AsksAt site (k r))
