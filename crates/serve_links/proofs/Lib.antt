pub mod LooksTell
pub mod LinkOpens
pub mod ServersGoOn
