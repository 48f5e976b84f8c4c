-- What a browser asks for by the head of a request (RFC 9112; the HTML standard, "Server-sent events"; the paths
-- and the ids: this project's profile).
use Rattle.std.specs.Prelude.{ℕ, ◌≡◌, ◌+◌, ◌==◌, ◌≢◌, nat_le, Bool, true, false, ◌&&◌, ◌||◌, not}
use Rattle.std.specs.Prelude.{List, [], ◌∷◌, length, take, drop, Option, Some, None, if◌then◌else◌, codes, map, ⊤}
use Rattle.std.specs.Str.{str_eq_ignore_ascii_case}
use Rattle.httparse.specs.Grammar.{ReadsRequest, RequestHead}
use Rattle.httparse.specs.Spans.{RequestOverflows, name_and_value}
use Rattle.acdm_lines.specs.Numbers.{NamesNoNumber, NamesNumber}
use Rattle.acdm_web.specs.declared.request.BrowserRequest.{BrowserRequest}
use Rattle.acdm_web.specs.declared.request.Wanted.{Wanted}
use Rattle.acdm_web.specs.declared.request.Wanted.TheVariants.{Page, Events, Nothing, OtherMethod, Misdirected, NoRequest, Busy}

-- two names are one, in whatever case
abbrev pub is_name : List ℕ → List ℕ → Bool
is_name = str_eq_ignore_ascii_case

-- of names and values, the value of the first with a name, in whatever case
abbrev pub value_of : List ℕ → List (List ℕ × List ℕ) → Option (List ℕ)
value_of name [] = None
value_of name (f ∷ fields) = if is_name f.0 name then Some f.1 else value_of name fields

-- the number that such a value names, if there is a value and it names one
abbrev pub IsLast : Option (List ℕ) → Option ℕ → Type 0
IsLast (Some text) (Some n) = NamesNumber text n
IsLast (Some text) None = NamesNoNumber text
IsLast None (Some n) = ⊥
IsLast None None = ⊤

-- ---- of whom it is asked (RFC 9110, section 7.4; which hosts there are: this project's profile)

-- how many bytes stand before the first that is this one
abbrev pub count_before : ℕ → List ℕ → ℕ
count_before mark [] = 0
count_before mark (b ∷ bs) = if b == mark then 0 else 1 + count_before mark bs

abbrev pub before : ℕ → List ℕ → List ℕ
before mark text = take (count_before mark text) text

-- an authority without its port
abbrev pub host_of : List ℕ → List ℕ
host_of authority = before 58 authority

-- a target without what stands behind its question mark (RFC 9112, section 3.2.1)
abbrev pub path_of : List ℕ → List ℕ
path_of target = before 63 target

-- digits and dots alone, as of an IPv4 address (the URL standard, "ends in a number")
abbrev pub is_numeric : List ℕ → Bool
is_numeric [] = true
is_numeric (b ∷ bs) = (b == 46 || (nat_le 48 b && nat_le b 57)) && is_numeric bs

-- it begins with a bracket, as an IPv6 address does
abbrev pub is_bracketed : List ℕ → Bool
is_bracketed [] = false
is_bracketed (b ∷ bs) = b == 91

abbrev pub is_given : Option (List ℕ) → List ℕ → Bool
is_given None host = false
is_given (Some name) host = is_name host name

-- an authority names this board: by an address, as `localhost`, or by the name that it was given
abbrev pub is_own : Option (List ℕ) → List ℕ → Bool
is_own name authority = is_bracketed authority || (is_numeric (host_of authority)
    || (is_name (host_of authority) (codes "localhost") || is_given name (host_of authority)))

-- so does the field `Host`, where there is one
abbrev pub is_own_host : Option (List ℕ) → Option (List ℕ) → Bool
is_own_host name None = true
is_own_host name (Some authority) = is_own name authority

-- a text is a scheme and behind it an authority
abbrev pub is_at : List ℕ → List ℕ → List ℕ → Bool
is_at origin scheme authority = nat_le (length scheme) (length origin)
    && (is_name (take (length scheme) origin) scheme
    && is_name (drop (length scheme) origin) authority)

-- a page of this site asks: there is no field `Origin`, or it has the authority of the field `Host`
abbrev pub is_same_site : Option (List ℕ) → Option (List ℕ) → Bool
is_same_site None host = true
is_same_site (Some origin) None = false
is_same_site (Some origin) (Some authority) =
    is_at origin (codes "http://") authority || is_at origin (codes "https://") authority

abbrev pub is_meant : Option (List ℕ) → List (List ℕ × List ℕ) → Bool
is_meant name fields = is_own_host name (value_of (codes "host") fields)
    && is_same_site (value_of (codes "origin") fields) (value_of (codes "host") fields)

abbrev pub last_of : List (List ℕ × List ℕ) → Option (List ℕ)
last_of fields = value_of (codes "last-event-id") fields

-- ---- what a head asks for, of a board with this name

abbrev pub IsFor : Option (List ℕ) → RequestHead → Type 0
IsFor name h = is_meant name (map name_and_value h.fields) ≡ true

-- a method that is answered: it asks for the head of the answer alone, or for all of it
abbrev pub method_of : Bool → List ℕ
method_of true = codes "HEAD"
method_of false = codes "GET"

abbrev pub IsOf : Bool → RequestHead → Type 0
IsOf true h = h.method ≡ codes "HEAD"
IsOf false h = h.method ≢ codes "HEAD"

-- what a target names, behind which number, if it has one, a browser goes on
abbrev pub IsAt : List ℕ → Option (List ℕ) → Wanted → Type 0
IsAt path number Page = path ≡ codes "/"
IsAt path number (Events last) = (path ≡ codes "/events") × IsLast number last
IsAt path number Nothing = (path ≢ codes "/") × (path ≢ codes "/events")
IsAt path number _ = ⊥

abbrev pub IsRead : Option (List ℕ) → RequestHead → BrowserRequest → Type 0
IsRead name h request = IsFor name h × (h.method ≡ method_of request.is_head)
    × IsAt (path_of h.target) (last_of (map name_and_value h.fields)) request.wanted

abbrev pub AsksFor : Option (List ℕ) → RequestHead → BrowserRequest → Wanted → Type 0
AsksFor name h request OtherMethod = IsFor name h × (h.method ≢ codes "GET") × (h.method ≢ codes "HEAD")
AsksFor name h request Misdirected = is_meant name (map name_and_value h.fields) ≡ false
AsksFor name h request NoRequest = ⊥
AsksFor name h request Busy = ⊥
AsksFor name h request _ = IsRead name h request

abbrev pub Asks : Option (List ℕ) → RequestHead → BrowserRequest → Type 0
Asks name h request = IsOf request.is_head h × AsksFor name h request request.wanted

abbrev pub WantsBy : Option (List ℕ) → List ℕ → BrowserRequest → Wanted → Type 0
WantsBy name bytes request NoRequest = RequestOverflows 64 bytes × (request.is_head ≡ false)
WantsBy name bytes request _ = (h : RequestHead) × (rest : List ℕ) × ReadsRequest bytes h rest × Asks name h request

-- What bytes ask for: the head at their front does, or none with at most 64 fields can come of them.
abbrev pub Wants : Option (List ℕ) → List ℕ → BrowserRequest → Type 0
Wants name bytes request = WantsBy name bytes request request.wanted
