pub mod LicenceLaws
