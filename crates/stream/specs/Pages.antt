-- A page of bytes as a sink.
use Rattle.std.specs.Prelude.{Some, length}
use Rattle.device.specs.Device.{Device}
use Rattle.stream.specs.declared.page.Page.{Page}

-- the state of a page as a sink that has accepted exactly the bytes of the page
abbrev pub page_state : Page → Device
page_state page = record {
  bytes = Some page.bytes.items;
  passed = length page.bytes.items;
  failures = page.failures;
  failed_at = page.failed_at;
}
