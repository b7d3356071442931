pub mod MarkBytes
